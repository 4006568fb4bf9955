-- Tables and calls: what is handed in, and the function that a call is defined to answer. Assumes nothing.
use Rattle.std.specs.Prelude.{ℕ, ◌-◌, ◌<◌, ◌≤◌, cond, List, [], ◌∷◌, ◌==◌}
use Rattle.mvl.specs.Labels.{Meaning}
use Rattle.diagrams.specs.Shape.{Shape, ShapeLaws, updated}
use Rattle.diagrams.specs.Functions.{Function}
use Rattle.diagrams.specs.Diagram.{Edge, Nodes, Has, population, value, Reduced}

-- a table: its variables, its nodes and how many nodes it may have
pub record Table : Type 0 where
  pub shape : Shape
  pub nodes : Nodes
  pub capacity : ℕ

-- the table keeps the four rules, and holds no more nodes than its capacity
pub record Sound (m : Meaning) (t : Table) : Type 0 where
  pub shape_laws : ShapeLaws t.shape
  pub reduced : Reduced m t.shape t.nodes
  pub fits : population t.nodes ≤ t.capacity

-- a table of a lawful shape with no node
pub record Empty (t : Table) : Type 0 where
  pub shape_laws : ShapeLaws t.shape
  pub none : (r : ℕ) → Has t.nodes r → ⊥

-- a call that answers an edge, with what was handed in; an operation stands by its radix and its meaning at that call
pub data Query : Type 0 where
  constant : (v : ℕ) → Query
  variable : (x : ℕ) → Query
  literal : (x v : ℕ) → Query
  turn : (e : Edge) (k : ℕ) → Query
  apply : (radix : ℕ) (op : ℕ → ℕ → ℕ) (e f : Edge) → Query
  restrict : (e : Edge) (x v : ℕ) → Query

-- the other call exchanges the variables of places t and t + 1
pub data Call : Type 0 where
  asks : Query → Call
  exchange : (t : ℕ) → Call

-- the function that a query is defined to answer
abbrev pub asked : Meaning → Table → Query → Function
asked m t (constant v) a = v
asked m t (variable x) a = a x
asked m t (literal x v) a = cond (a x == v) (m.radix - 1) 0
asked m t (turn e k) a = m.carry k (value m t.shape t.nodes e a)
asked m t (apply r op e f) a = op (value m t.shape t.nodes e a) (value m t.shape t.nodes f a)
asked m t (restrict e x v) a = value m t.shape t.nodes e (updated a x v)

-- an operation that is handed in answers a value below its radix, for operands below it
abbrev pub Proper : Call → Type 0
Proper (asks (constant v)) = Unit {0}
Proper (asks (variable x)) = Unit {0}
Proper (asks (literal x v)) = Unit {0}
Proper (asks (turn e k)) = Unit {0}
Proper (asks (apply r op e f)) = (a b : ℕ) → a < r → b < r → op a b < r
Proper (asks (restrict e x v)) = Unit {0}
Proper (exchange p) = Unit {0}

-- every call of a list is proper
abbrev pub AllProper : List Call → Type 0
AllProper [] = Unit {0}
AllProper (c ∷ cs) = Proper c × AllProper cs
