-- The words that kinds have in a script. Assumes nothing.
use Rattle.std.specs.Prelude.{◌≡◌, ℕ, List, codes, Ok, Err, Result}
use Rattle.scripts.specs.declared.kinds.LabellingKind.{LabellingKind}
use Rattle.scripts.specs.declared.kinds.LabellingKind.TheVariants.{Plain, Complement, Cyclic}
use Rattle.scripts.specs.declared.kinds.OperationKind.{OperationKind}
use Rattle.scripts.specs.declared.kinds.OperationKind.TheVariants.{Minimum, Maximum, CyclicSum, TruncatedSum, Table}

abbrev pub labelling_word : LabellingKind → List ℕ
labelling_word Plain = codes "plain"
labelling_word Complement = codes "complement"
labelling_word Cyclic = codes "cyclic"

abbrev pub operation_word : OperationKind → List ℕ
operation_word Minimum = codes "min"
operation_word Maximum = codes "max"
operation_word CyclicSum = codes "cyclic-sum"
operation_word TruncatedSum = codes "truncated-sum"
operation_word Table = codes "table"

-- a text is the word of the kind that is read, or of no kind
abbrev pub Names : {K E : Type 0} → (K → List ℕ) → List ℕ → Result K E → Type 0
Names word text (Ok kind) = text ≡ word kind
Names {K} word text (Err e) = (kind : K) → text ≡ word kind → ⊥
