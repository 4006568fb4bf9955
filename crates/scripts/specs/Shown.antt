-- What the tables of `values` and `labels` show. Assumes nothing.
use Rattle.std.specs.Prelude.{◌≡◌, ℕ, ◌<◌, List, [], slice_index, slice_index_or, Result}
use Rattle.std.specs.Result.{result_unwrap_or}
use Rattle.mvl.specs.declared.refusal.Refusal.{Refusal}
use Rattle.mvl.specs.Labels.{Meaning}
use Rattle.mvl.specs.Operations.{Binary}
use Rattle.scripts.specs.declared.grid.Grid.{Grid}

-- the first n of a list are f 0, f 1 and so on
abbrev pub Lists : ℕ → (ℕ → ℕ) → List ℕ → Type 0
Lists n f xs = (b : ℕ) → b < n → slice_index xs b ≡ f b

-- row a, column b of a table is f a b
abbrev pub Shows : ℕ → ℕ → (ℕ → ℕ → ℕ) → Grid → Type 0
Shows rows columns f g = (g.rows ≡ rows) × (g.columns ≡ columns) × ((a : ℕ) → a < rows → Lists columns (f a) (slice_index_or g.cells a []))

-- each of the first four of a list is what is answered to its number, or 0 where that is refused
abbrev pub Answered : (ℕ → Result ℕ Refusal → Type 0) → List ℕ → Type 0
Answered gives xs = (b : ℕ) → b < 4 → ((r : Result ℕ Refusal) × gives b r × (slice_index xs b ≡ result_unwrap_or r 0))

-- every answer of an operation; every value to which a label carries one
abbrev pub ShowsAnswers : Binary → Grid → Type 0
ShowsAnswers o = Shows o.radix o.radix o.answer

abbrev pub ShowsCarries : Meaning → Grid → Type 0
ShowsCarries m = Shows m.labels m.radix m.carry
