-- What making a node gives. Assumes nothing.
use Rattle.std.specs.Prelude.{◌≡◌, ℕ, ◌≤◌, List, length, Ok, Err, Result}
use Rattle.mvl.specs.declared.refusal.Refusal.{Refusal}
use Rattle.mvl.specs.declared.refusal.Refusal.TheVariants.{NoRoom}
use Rattle.diagrams.specs.Make.{Alike, Made, Makes}
use Rattle.tables.specs.declared.parts.edge.Edge.{Edge}
use Rattle.tables.specs.declared.parts.holding.Diagrams.{Diagrams}
use Rattle.tables.specs.Edges.{arrow, arrows}
use Rattle.tables.specs.Cards.{shape_of, capacity_of}
use Rattle.tables.specs.Stores.{items}
use Rattle.tables.specs.Sounds.{Grows}
use Rattle.tables.specs.Did.{meaning_of, nodes_of}

-- the chart and the card stay, and nodes were added at the end
pub record Grown (before after : Diagrams) : Type 0 where
  pub chart : after.chart ≡ before.chart
  pub card : after.card ≡ before.card
  pub grows : Grows (items before.store) (items after.store)

module _ (before : Diagrams) (x : ℕ) (es : List Edge) where
  -- an edge to what reads es at the values of x
  pub record HasMade (e : Edge) (after : Diagrams) : Type 0 where
    pub grown : Grown before after
    pub makes : Makes (meaning_of before) (shape_of before.card) (nodes_of before) x (arrows es) (nodes_of after) (arrow e)

  -- the node is missing, and there is no room for it
  pub record LacksRoom (k : Refusal) (after : Diagrams) : Type 0 where
    pub is : k ≡ NoRoom
    pub same : after ≡ before
    pub unlike : Alike ((shape_of before.card).size x) (arrows es) → ⊥
    pub missing : (q : ℕ) → Made (meaning_of before) (shape_of before.card) (nodes_of before) x (arrows es) q → ⊥
    pub full : capacity_of before.card ≤ length (items before.store)

  abbrev pub MakesNode : Result Edge Refusal → Diagrams → Type 0
  MakesNode (Ok e) after = HasMade e after
  MakesNode (Err k) after = LacksRoom k after
