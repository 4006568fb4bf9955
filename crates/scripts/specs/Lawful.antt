-- The labelling and the operation at hand keep the laws. Assumes nothing.
use Rattle.std.proofs.Common.{rules}
use Rattle.mvl.specs.Labels.{Laws}
use Rattle.mvl.specs.Operations.{Closed}
use Rattle.mvl.proofs.Labels.Lawful.{plain_laws, even_laws, cyclic_laws}
use Rattle.operations.specs.Turnings.{turned_closed}
use Rattle.scripts.specs.declared.any_labelling.AnyLabelling.{AnyLabelling}
use Rattle.scripts.specs.declared.any_labelling.AnyLabelling.TheVariants.{Plain, Complement, Cyclic}
use Rattle.scripts.specs.declared.any_operation.AnyOperation.{AnyOperation}
use Rattle.scripts.specs.declared.any_operation.AnyOperation.TheVariants.{Minimum, Maximum, CyclicSum, TruncatedSum, Table}
use Rattle.scripts.specs.declared.chosen.Chosen.{Chosen}
use Rattle.scripts.specs.declared.chosen.Chosen.TheVariants.{Alone, Turned}
use Rattle.scripts.specs.Meanings.{labelling_meaning, operation_meaning, chosen_meaning}

pub labelling_laws : (l : AnyLabelling) → Laws (labelling_meaning l)
labelling_laws (Plain l) = plain_laws l.radix.value l.radix.low l.radix.high
labelling_laws (Complement l) = even_laws l.radix.value l.radix.low l.radix.high l.even
labelling_laws (Cyclic l) = cyclic_laws l.radix.value l.radix.low l.radix.high

pub operation_closed : (o : AnyOperation) → Closed (operation_meaning o)
operation_closed (Minimum o) = search rules
operation_closed (Maximum o) = search rules
operation_closed (CyclicSum o) = search rules
operation_closed (TruncatedSum o) = search rules
operation_closed (Table o) = search rules

pub chosen_closed : (o : Chosen) → Closed (chosen_meaning o)
chosen_closed (Alone o) = operation_closed o
chosen_closed (Turned t) = turned_closed _ _ t.left t.right t.answer (operation_closed t.below) (labelling_laws t.labelling)
