-- What is made when a kind and a radix are chosen. Assumes nothing.
use Rattle.std.specs.Prelude.{◌≡◌, ℕ, Ok, Err, Result}
use Rattle.mvl.specs.Labels.{Meaning}
use Rattle.mvl.specs.Labellings.{plain, complement, cyclic}
use Rattle.mvl.specs.Operations.{Binary, minimum, maximum, cyclic_sum, truncated_sum}
use Rattle.mvl.specs.Answers.{Small, Even}
use Rattle.mvl.specs.declared.refusal.Refusal.{Refusal}
use Rattle.mvl.specs.declared.refusal.Refusal.TheVariants.{Unserved}
use Rattle.scripts.specs.declared.kinds.LabellingKind.{LabellingKind}
use Rattle.scripts.specs.declared.kinds.LabellingKind.TheVariants.{Plain, Complement, Cyclic}
use Rattle.scripts.specs.declared.kinds.OperationKind.{OperationKind}
use Rattle.scripts.specs.declared.kinds.OperationKind.TheVariants.{Minimum, Maximum, CyclicSum, TruncatedSum, Table}
use Rattle.scripts.specs.declared.any_labelling.AnyLabelling.{AnyLabelling}
use Rattle.scripts.specs.declared.any_operation.AnyOperation.{AnyOperation}
use Rattle.scripts.specs.Meanings.{labelling_meaning, operation_meaning}

-- the labelling of a kind and a radix, and the radices that the kind serves
abbrev pub labelling_of : LabellingKind → ℕ → Meaning
labelling_of Plain p = plain p
labelling_of Complement p = complement p
labelling_of Cyclic p = cyclic p

abbrev pub Serves : LabellingKind → ℕ → Type 0
Serves Plain p = Small p
Serves Complement p = Even p
Serves Cyclic p = Small p

-- the operation of a kind and a radix: a table answers 0 until it is filled
abbrev pub operation_of : OperationKind → ℕ → Binary
operation_of Minimum p = minimum p
operation_of Maximum p = maximum p
operation_of CyclicSum p = cyclic_sum p
operation_of TruncatedSum p = truncated_sum p
operation_of Table p = record { radix = p; answer = λ a b. 0 }

-- o answers as an operation should that means m
abbrev pub Means : Binary → AnyOperation → Type 0
Means m o = ((operation_meaning o).radix ≡ m.radix) × ((a b : ℕ) → (operation_meaning o).answer a b ≡ m.answer a b)

abbrev pub MakesLabelling : LabellingKind → ℕ → Result AnyLabelling Refusal → Type 0
MakesLabelling kind p (Ok l) = Serves kind p × (labelling_meaning l ≡ labelling_of kind p)
MakesLabelling kind p (Err e) = (Serves kind p → ⊥) × (e ≡ Unserved)

abbrev pub MakesOperation : OperationKind → ℕ → Result AnyOperation Refusal → Type 0
MakesOperation kind p (Ok o) = Small p × Means (operation_of kind p) o
MakesOperation kind p (Err e) = (Small p → ⊥) × (e ≡ Unserved)
