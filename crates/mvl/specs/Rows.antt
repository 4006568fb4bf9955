-- The rows of a chart: what each place of them has. Assumes nothing.
use Rattle.std.specs.Prelude.{◌≡◌, ℕ, ◌+◌, ◌*◌, ◌<◌, List, Result, slice_index}
use Rattle.std.specs.Result.{result_unwrap_or}
use Rattle.mvl.specs.Labels.{Meaning}
use Rattle.mvl.specs.Clipped.{clipped}
use Rattle.mvl.specs.declared.refusal.Refusal.{Refusal}

-- each number below n has its answer at that place
abbrev pub Line : ℕ → (ℕ → ℕ) → List ℕ → Type 0
Line n answer row = (x : ℕ) → x < n → slice_index row x ≡ answer x

-- each a below n, with each b below k, has its answer at place 4 * a + b
abbrev pub Grid : ℕ → ℕ → (ℕ → ℕ → ℕ) → List ℕ → Type 0
Grid n k answer row = (a b : ℕ) → a < n → b < k → slice_index row (4 * a + b) ≡ answer a b

-- each number below n was told something, and the row has what was told at that place, or 0 where that was a refusal
abbrev pub Answered : ℕ → (ℕ → Result ℕ Refusal → Type 0) → List ℕ → Type 0
Answered n Told row = (x : ℕ) → x < n → (r : Result ℕ Refusal) × Told x r × (slice_index row x ≡ result_unwrap_or r 0)

-- what a row of carries means: label k carries value v to what stands at 4 * k + v
abbrev pub rows_meaning : ℕ → ℕ → List ℕ → Meaning
rows_meaning p g carries = clipped (record { radix = p; labels = g; carry = λ k v. slice_index carries (4 * k + v) })
