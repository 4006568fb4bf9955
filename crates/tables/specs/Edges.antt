-- Numbers as edges. Assumes nothing.
use Rattle.std.specs.Prelude.{ℕ, ◌-◌, ◌/◌, ◌%◌, ◌<◌, cond, List, get_or, nat_lt, slice_index_or}
use Rattle.diagrams.specs.Diagram.{Target, terminal, node, edge_to, Edge as Arrow}
use Rattle.tables.specs.declared.parts.edge.Edge.{Edge}
use Rattle.tables.specs.declared.parts.target.Target.{Target as Aim}
use Rattle.tables.specs.declared.parts.target.Target.TheVariants.{Terminal, Node}

-- the target of a number: 0 to 3 are the terminals, 4 + r is node r
abbrev pub goal : ℕ → Target
goal t = cond (nat_lt t 4) (terminal t) (node (t - 4))

-- a target as the theory's
abbrev pub target_of : Aim → Target
target_of (Terminal v) = terminal v
target_of (Node r) = node r

-- there is a number for it
abbrev pub Numbered : Aim → Type 0
Numbered (Terminal v) = v < 4
Numbered (Node r) = r < 16380

-- the edge of a number: 16384 times the label, and the target
abbrev pub arrow : Edge → Arrow
arrow e = edge_to (e.word / 16384) (goal (e.word % 16384))

-- edge 0: what a variable's size leaves unused
abbrev pub unused : Edge
unused = record { word = 0 }

-- the edges of a row
abbrev pub word_at : List Edge → ℕ → ℕ
word_at es i = (get_or es i unused).word

abbrev pub arrows : List Edge → ℕ → Arrow
arrows es i = arrow (slice_index_or es i unused)
