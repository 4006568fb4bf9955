-- What a card stands for, and what filling it does. Assumes nothing.
use Rattle.std.specs.Prelude.{◌≡◌, ℕ, ◌<◌, ◌≤◌, List, length, Ok, Err, Result, slice_index}
use Rattle.mvl.specs.declared.refusal.Refusal.{Refusal}
use Rattle.mvl.specs.declared.refusal.Refusal.TheVariants.{BadCard}
use Rattle.diagrams.specs.Shape.{Shape}
use Rattle.tables.specs.declared.parts.card.Card.{Card}
use Rattle.tables.specs.Orders.{Sized}

-- the variables of a card, their sizes and places
abbrev pub shape_of : Card → Shape
shape_of c = record { count = c.n; size = λ x. slice_index c.sizes x; place = λ x. slice_index c.place x }

abbrev pub capacity_of : Card → ℕ
capacity_of c = c.capacity

-- 1 to 12 sizes, each from 2 to 4, and a capacity of at most 2000
pub record InRange (sizes : List ℕ) (capacity : ℕ) : Type 0 where
  pub some : 1 ≤ length sizes
  pub few : length sizes ≤ 12
  pub sized : Sized (length sizes) sizes
  pub room : capacity ≤ 2000

-- the card has these sizes and this capacity, and variable x in place x
pub record FilledWith (sizes : List ℕ) (capacity : ℕ) (c : Card) : Type 0 where
  pub count_is : c.n ≡ length sizes
  pub sizes_are : (x : ℕ) → x < length sizes → slice_index c.sizes x ≡ slice_index sizes x
  pub places_are : (x : ℕ) → x < length sizes → slice_index c.place x ≡ x
  pub order_is : (t : ℕ) → t < length sizes → slice_index c.order t ≡ t
  pub capacity_is : c.capacity ≡ capacity

-- filled where all is in range; else nothing changes
abbrev pub FillsCard : Card → List ℕ → ℕ → Result (Unit {0}) Refusal → Card → Type 0
FillsCard before sizes capacity (Ok done) after = InRange sizes capacity × FilledWith sizes capacity after
FillsCard before sizes capacity (Err e) after = (InRange sizes capacity → ⊥) × (e ≡ BadCard) × (after ≡ before)
