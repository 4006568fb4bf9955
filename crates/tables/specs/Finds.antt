-- What a look-up answers, and rows of edges made from others. Assumes nothing.
use Rattle.std.specs.Prelude.{◌≡◌, ℕ, ◌<◌, ◌≤◌, Bool, true, false, List, length, Some, None, Option, slice_index_or}
use Rattle.diagrams.specs.Diagram.{Edge as Arrow}
use Rattle.tables.specs.declared.parts.edge.Edge.{Edge}
use Rattle.tables.specs.declared.parts.key.Key.{Key}
use Rattle.tables.specs.declared.parts.node.Node.{Node}
use Rattle.tables.specs.Edges.{arrow, unused, word_at}
use Rattle.tables.specs.Records.{at, SameKey}

abbrev pub Finds : List Node → Key → Option ℕ → Type 0
Finds xs k (Some r) = (r < length xs) × SameKey (at xs r).key k
Finds xs k None = (q : ℕ) → q < length xs → SameKey (at xs q).key k → ⊥

-- whether the first edges are one
abbrev pub Alikes : List Edge → ℕ → Bool → Type 0
Alikes es size true = (i : ℕ) → i < size → word_at es i ≡ word_at es 0
Alikes es size false = ((i : ℕ) → i < size → word_at es i ≡ word_at es 0) → ⊥

-- a row of edges of which P holds below a size, and unused from there
pub record FilledBy (P : ℕ → Edge → Type 0) (size : ℕ) (ns : List Edge) : Type 0 where
  pub used : (i : ℕ) → i < size → P i (slice_index_or ns i unused)
  pub fills : (i : ℕ) → size ≤ i → i < 4 → word_at ns i ≡ 0

-- a row of edges with f below a size, and unused from there
abbrev pub Filled : (ℕ → Arrow) → ℕ → List Edge → Type 0
Filled f size ns = FilledBy (λ i e. arrow e ≡ f i) size ns
