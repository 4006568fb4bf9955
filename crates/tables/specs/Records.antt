-- The records of nodes. Assumes nothing.
use Rattle.std.specs.Prelude.{◌≡◌, ℕ, ◌+◌, ◌*◌, ◌/◌, ◌%◌, ◌<◌, List, [], length, nat_lt, slice_index_or, Some, None, Option}
use Rattle.diagrams.specs.Diagram.{Nodes}
use Rattle.tables.specs.declared.parts.key.Key.{Key}
use Rattle.tables.specs.declared.parts.link.Link.{Link}
use Rattle.tables.specs.declared.parts.node.Node.{Node}
use Rattle.tables.specs.Edges.{word_at, arrows}

abbrev pub none : Link
none = record { to = 0 }

-- what a link leads to: 0 is none, 1 + r is record r
abbrev pub LeadsTo : Link → Option ℕ → Type 0
LeadsTo l None = l.to ≡ 0
LeadsTo l (Some r) = l.to ≡ r + 1

abbrev pub blank : Node
blank = record { key = record { variable = 0; edges = [] }; next = none }

abbrev pub at : List Node → ℕ → Node
at xs i = slice_index_or xs i blank

-- the chain of a node
abbrev pub hash_of : Key → ℕ
hash_of k =
    (k.variable * 40503459 + ((word_at k.edges 0 * 52711627 + word_at k.edges 1 * 36174071) + (word_at k.edges 2 * 61845893 + word_at k.edges 3 * 45019357))) / 65536 % 1024

-- two keys are the same
pub record SameKey (k l : Key) : Type 0 where
  pub variable : k.variable ≡ l.variable
  pub edges : (i : ℕ) → i < 4 → word_at k.edges i ≡ word_at l.edges i

-- a row of records as the nodes of a table: node r is record r
abbrev pub nodes_in : List Node → Nodes
nodes_in xs = record {
  bound = length xs;
  held = λ r. nat_lt r (length xs);
  variable = λ r. (at xs r).key.variable;
  edge = λ r i. arrows (at xs r).key.edges i;
}
