-- What the records of a table keep. Assumes nothing.
use Rattle.std.specs.Prelude.{◌≡◌, ℕ, ◌<◌, ◌≤◌, List, length, take}
use Rattle.mvl.specs.Labels.{Meaning}
use Rattle.diagrams.specs.Shape.{Shape}
use Rattle.diagrams.specs.Diagram.{Reduced}
use Rattle.tables.specs.declared.parts.node.Node.{Node}
use Rattle.tables.specs.Edges.{word_at}
use Rattle.tables.specs.Records.{at, nodes_in}

-- the four rules, and unused edges that are edge 0
pub record Sound (m : Meaning) (s : Shape) (xs : List Node) : Type 0 where
  pub reduced : Reduced m s (nodes_in xs)
  pub fills : (r i : ℕ) → r < length xs → s.size (at xs r).key.variable ≤ i → i < 4 → word_at (at xs r).key.edges i ≡ 0

-- records were added at the end, and none was changed
abbrev pub Grows : List Node → List Node → Type 0
Grows xs ys = take (length xs) ys ≡ xs
