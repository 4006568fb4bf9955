-- Rows of edges that were filled. Assumes nothing.
use Rattle.std.proofs.Common.{ℕ, ◌<◌, List}
use Rattle.tables.specs.Finds.{FilledBy}
use Rattle.tables.specs.declared.parts.edge.Edge.{Edge}

-- what holds of each edge that was made
pub filled_as : {P Q : ℕ → Edge → Type 0} {size : ℕ} {ns : List Edge} → ((i : ℕ) (e : Edge) → i < size → P i e → Q i e) → FilledBy P size ns → FilledBy Q size ns
filled_as f row = record { used = λ i h. f i _ h (row.used i h); fills = row.fills }
