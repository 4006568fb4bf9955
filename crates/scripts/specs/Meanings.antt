-- What the labelling and the operation at hand mean. Assumes nothing.
use Rattle.mvl.specs.Labels.{Meaning}
use Rattle.mvl.specs.Labellings.{plain, complement, cyclic}
use Rattle.mvl.specs.Operations.{Binary, minimum, maximum, cyclic_sum, truncated_sum}
use Rattle.operations.specs.Filling.{table_of}
use Rattle.operations.specs.Turning.{seen}
use Rattle.operations.specs.declared.turned.Turned.{Turned as TurnedOver}
use Rattle.scripts.specs.declared.any_labelling.AnyLabelling.{AnyLabelling}
use Rattle.scripts.specs.declared.any_labelling.AnyLabelling.TheVariants.{Plain, Complement, Cyclic}
use Rattle.scripts.specs.declared.any_operation.AnyOperation.{AnyOperation}
use Rattle.scripts.specs.declared.any_operation.AnyOperation.TheVariants.{Minimum, Maximum, CyclicSum, TruncatedSum, Table}
use Rattle.scripts.specs.declared.chosen.Chosen.{Chosen}
use Rattle.scripts.specs.declared.chosen.Chosen.TheVariants.{Alone, Turned}

abbrev pub labelling_meaning : AnyLabelling → Meaning
labelling_meaning (Plain l) = plain l.radix.value
labelling_meaning (Complement l) = complement l.radix.value
labelling_meaning (Cyclic l) = cyclic l.radix.value

abbrev pub operation_meaning : AnyOperation → Binary
operation_meaning (Minimum o) = minimum o.radix.value
operation_meaning (Maximum o) = maximum o.radix.value
operation_meaning (CyclicSum o) = cyclic_sum o.radix.value
operation_meaning (TruncatedSum o) = truncated_sum o.radix.value
operation_meaning (Table o) = table_of o

-- an operation seen through a labelling
abbrev pub TurnedAny : Type 0
TurnedAny = TurnedOver AnyOperation AnyLabelling

-- an operation alone, or seen through a labelling
abbrev pub chosen_meaning : Chosen → Binary
chosen_meaning (Alone o) = operation_meaning o
chosen_meaning (Turned t) = seen operation_meaning labelling_meaning t
