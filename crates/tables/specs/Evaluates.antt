-- What an evaluation answers. Assumes nothing.
use Rattle.std.specs.Prelude.{◌≡◌, ℕ, ◌<◌, ◌≤◌, Bool, true, false, List, length, Ok, Err, Result, ◌==◌, nat_lt, slice_index}
use Rattle.mvl.specs.declared.refusal.Refusal.{Refusal}
use Rattle.mvl.specs.declared.refusal.Refusal.TheVariants.{NoEdge, NoValue, WrongLength}
use Rattle.mvl.specs.Numbers.{number}
use Rattle.mvl.specs.Search.{all_below}
use Rattle.mvl.specs.Labels.{Meaning}
use Rattle.diagrams.specs.Diagram.{Edge as Arrow, value, visits}
use Rattle.diagrams.specs.Calls.{Table}
use Rattle.diagrams.specs.Refusals.{is_edge, unless}
use Rattle.tables.specs.declared.parts.card.Card.{Card}
use Rattle.tables.specs.declared.calls.reading.Reading.{Reading}

-- what a row gives each variable
abbrev pub assigned : List ℕ → ℕ → ℕ
assigned xs x = slice_index xs x

-- whether each value is below the size of its variable
abbrev pub Allows : Card → List ℕ → Bool → Type 0
Allows c xs true = (x : ℕ) → x < length xs → assigned xs x < slice_index c.sizes x
Allows c xs false = (x : ℕ) × (x < length xs) × (slice_index c.sizes x ≤ assigned xs x)

-- the number with which an evaluation is refused; 0 where it is granted. The entries are tested only where there are as many as variables
abbrev pub unreadable : Meaning → Table → Arrow → List ℕ → ℕ
unreadable m t e xs =
    unless (is_edge m t.nodes e) NoEdge
    (unless (length xs == t.shape.count) WrongLength
    (unless (all_below t.shape.count (λ x. nat_lt (assigned xs x) (t.shape.size x))) NoValue 0))

-- v is the value of the edge, and n nodes stand on the path
pub record Read (m : Meaning) (t : Table) (e : Arrow) (xs : List ℕ) (v n : ℕ) : Type 0 where
  pub granted : unreadable m t e xs ≡ 0
  pub value_is : v ≡ value m t.shape t.nodes e (assigned xs)
  pub visited_are : n ≡ visits t.nodes t.shape.count e.target (assigned xs)
  pub few : n ≤ t.shape.count

pub record Unread (m : Meaning) (t : Table) (e : Arrow) (xs : List ℕ) (k : ℕ) : Type 0 where
  pub some : 0 < k
  pub refused : unreadable m t e xs ≡ k

abbrev pub Evaluates : Meaning → Table → Arrow → List ℕ → Result Reading Refusal → Type 0
Evaluates m t e xs (Ok r) = Read m t e xs r.value r.visited
Evaluates m t e xs (Err k) = Unread m t e xs (number k)
