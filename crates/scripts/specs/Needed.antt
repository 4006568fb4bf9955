-- What a command needs to be at hand, or what it lacks. Assumes nothing.
use Rattle.std.specs.Prelude.{Some, None, Ok, Err, Option, Result}
use Rattle.operations.specs.declared.table_operation.TableOperation.{TableOperation}
use Rattle.scripts.specs.declared.any_labelling.AnyLabelling.{AnyLabelling}
use Rattle.scripts.specs.declared.any_operation.AnyOperation.{AnyOperation}
use Rattle.scripts.specs.declared.any_operation.AnyOperation.TheVariants.{Minimum, Maximum, CyclicSum, TruncatedSum, Table}
use Rattle.scripts.specs.declared.chosen.Chosen.{Chosen}
use Rattle.scripts.specs.declared.chosen.Chosen.TheVariants.{Alone, Turned}
use Rattle.scripts.specs.declared.reply.Missing.{Missing}
use Rattle.scripts.specs.declared.reply.Missing.TheVariants as lacks
use Rattle.scripts.specs.declared.session.Session.{Session}

-- the operation without its turning
abbrev pub below_of : Chosen → AnyOperation
below_of (Alone o) = o
below_of (Turned t) = t.below

-- the operation where it is not turned
abbrev pub alone_of : Chosen → Result AnyOperation Missing
alone_of (Alone o) = Ok o
alone_of (Turned t) = Err lacks.Unturned

-- the operation where it is a table
abbrev pub table_in : AnyOperation → Result TableOperation Missing
table_in (Minimum o) = Err lacks.Table
table_in (Maximum o) = Err lacks.Table
table_in (CyclicSum o) = Err lacks.Table
table_in (TruncatedSum o) = Err lacks.Table
table_in (Table t) = Ok t

-- and not turned
abbrev pub table_of : Chosen → Result TableOperation Missing
table_of (Alone o) = table_in o
table_of (Turned t) = Err lacks.Table

-- what is chosen
abbrev pub labelling_at : Option AnyLabelling → Result AnyLabelling Missing
labelling_at (Some l) = Ok l
labelling_at None = Err lacks.Labelling

abbrev pub operation_at : Option Chosen → Result Chosen Missing
operation_at (Some o) = Ok o
operation_at None = Err lacks.Operation

abbrev pub alone_at : Option Chosen → Result AnyOperation Missing
alone_at (Some o) = alone_of o
alone_at None = Err lacks.Operation

abbrev pub table_at : Option Chosen → Result TableOperation Missing
table_at (Some o) = table_of o
table_at None = Err lacks.Operation

-- to turn takes both, the operation first
abbrev pub and_labelling : Result Chosen Missing → Result AnyLabelling Missing → Result (AnyOperation × AnyLabelling) Missing
and_labelling (Ok o) (Ok l) = Ok (below_of o, l)
and_labelling (Ok o) (Err lack) = Err lack
and_labelling (Err lack) l = Err lack

abbrev pub both_at : Session → Result (AnyOperation × AnyLabelling) Missing
both_at s = and_labelling (operation_at s.operation) (labelling_at s.labelling)
