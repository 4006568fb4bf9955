-- What the tests of a call's arguments answer, by the number with which they refuse. Assumes nothing.
use Rattle.std.specs.Prelude.{◌≡◌, ℕ, true, false, Ok, Err, Result, ◌&&◌, ◌==◌, nat_lt, slice_index}
use Rattle.mvl.specs.declared.refusal.Refusal.{Refusal}
use Rattle.mvl.specs.declared.refusal.Refusal.TheVariants.{NoEdge, NoVariable, NoValue, WrongRadix}
use Rattle.mvl.specs.Numbers.{number}
use Rattle.diagrams.specs.Refusals.{is_edge, unless}
use Rattle.tables.specs.declared.parts.edge.Edge.{Edge}
use Rattle.tables.specs.declared.parts.card.Card.{Card}
use Rattle.tables.specs.declared.parts.holding.Diagrams.{Diagrams}
use Rattle.tables.specs.Edges.{arrow}
use Rattle.tables.specs.Did.{meaning_of, nodes_of}

-- n is the number with which a test refuses, and 0 where it passes
abbrev pub Tested : {A : Type 0} → ℕ → Result A Refusal → Type 0
Tested n (Ok done) = n ≡ 0
Tested n (Err k) = n ≡ number k

-- it is an edge of the table
abbrev pub Known : Diagrams → Edge → Result (Unit {0}) Refusal → Type 0
Known d e (Ok done) = true ≡ is_edge (meaning_of d) (nodes_of d) (arrow e)
Known d e (Err k) = (false ≡ is_edge (meaning_of d) (nodes_of d) (arrow e)) × (k ≡ NoEdge)

-- there is such a variable
abbrev pub no_variable : Card → ℕ → ℕ
no_variable c x = unless (nat_lt x c.n) NoVariable 0

-- and v is a value of it
abbrev pub no_value : Card → ℕ → ℕ → ℕ
no_value c x v = unless (nat_lt x c.n) NoVariable (unless (nat_lt v (slice_index c.sizes x)) NoValue 0)

-- an operation of this radix can be applied to two edges
abbrev pub unfit : Diagrams → ℕ → Edge → Edge → ℕ
unfit d radix e f =
    unless (is_edge (meaning_of d) (nodes_of d) (arrow e) && is_edge (meaning_of d) (nodes_of d) (arrow f)) NoEdge
    (unless (radix == d.chart.radix) WrongRadix 0)
