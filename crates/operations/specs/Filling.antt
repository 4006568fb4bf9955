-- What a new table operation answers, and what filling it does. Assumes nothing.
use Rattle.std.specs.Prelude.{◌≡◌, ℕ, ◌+◌, ◌*◌, ◌<◌, List, length, Ok, Err, Result, ◌≢◌, slice_index}
use Rattle.mvl.specs.Operations.{Binary, tabled}
use Rattle.mvl.specs.declared.refusal.Refusal.{Refusal}
use Rattle.mvl.specs.declared.refusal.Refusal.TheVariants.{NoValue, WrongLength}
use Rattle.operations.specs.declared.table_operation.TableOperation.{TableOperation}

-- what a table operation means
abbrev pub table_of : TableOperation → Binary
table_of o = tabled o.radix.value o.bytes

-- what was made answers 0 for every pair
abbrev pub Blank : Result TableOperation Refusal → Type 0
Blank (Ok o) = (a b : ℕ) → (table_of o).answer a b ≡ 0
Blank (Err e) = Unit {0}

-- every byte is below p
abbrev pub AllBelow : ℕ → List ℕ → Type 0
AllBelow p bytes = (x : ℕ) → x < length bytes → slice_index bytes x < p

-- filled by bytes: the length is tested first, then the bytes; a refusal changes nothing
abbrev pub Fills : TableOperation → List ℕ → Result (Unit {0}) Refusal → TableOperation → Type 0
Fills before bytes (Ok done) after =
    (length bytes ≡ before.radix.value * before.radix.value) × AllBelow before.radix.value bytes × (after.radix.value ≡ before.radix.value)
    × ((a b : ℕ) → a < before.radix.value → b < before.radix.value → (table_of after).answer a b ≡ slice_index bytes (before.radix.value * a + b))
Fills before bytes (Err e) after =
    (after ≡ before)
    × ((length bytes ≢ before.radix.value * before.radix.value) → e ≡ WrongLength)
    × (length bytes ≡ before.radix.value * before.radix.value → (AllBelow before.radix.value bytes → ⊥) × (e ≡ NoValue))
