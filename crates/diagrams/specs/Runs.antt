-- What a list of calls may do to a table, and what holds of every edge answered. Assumes nothing.
use Rattle.std.specs.Prelude.{◌≡◌, ℕ, suc, ◌≤◌, ◌⊎◌, ◌↔◌, List, [], ◌∷◌}
use Rattle.mvl.specs.Labels.{Meaning}
use Rattle.diagrams.specs.Shape.{variable_at, swapped}
use Rattle.diagrams.specs.Functions.{Function, Agree}
use Rattle.diagrams.specs.Diagram.{Edge, Nodes, value, Over, Of, Ordered, size_of}
use Rattle.diagrams.specs.Build.{Gains}
use Rattle.diagrams.specs.Exchange.{Exchanged}
use Rattle.diagrams.specs.Calls.{Table, Query, Call, asks, exchange, asked}
use Rattle.diagrams.specs.Refusals.{refusal}

-- an edge, nothing, or the number of the refusal
pub data Answer : Type 0 where
  edge : Edge → Answer
  done : Answer
  refused : ℕ → Answer

-- one call, what it answers, and the table after it
pub data Step (m : Meaning) (t : Table) : Call → Answer → Table → Type 0 where
  answers : (q : Query) (d' : Nodes) (e : Edge) → refusal m t (asks q) ≡ 0 → Gains m t.shape t.nodes (asked m t q) d' e
      → Step m t (asks q) (edge e) (record { shape = t.shape; nodes = d'; capacity = t.capacity })
  exchanges : (p : ℕ) (d' : Nodes) → refusal m t (exchange p) ≡ 0
      → Exchanged m t.shape t.nodes (variable_at t.shape p) (variable_at t.shape (suc p)) d'
      → Step m t (exchange p) done (record { shape = swapped t.shape (variable_at t.shape p) (variable_at t.shape (suc p)); nodes = d'; capacity = t.capacity })
  refuses : (c : Call) (k : ℕ) → refusal m t c ≡ suc k → Step m t c (refused (suc k)) t

-- an answered edge, with the function that its call was defined to answer
pub record Answered : Type 0 where
  pub edge : Edge
  pub function : Function

-- the edge of an answer goes on the list of those answered so far
abbrev pub noted : Meaning → Table → Call → Answer → List Answered → List Answered
noted m t (asks q) (Answer.edge e) xs = record { edge = e; function = asked m t q } ∷ xs
noted m t (asks q) done xs = xs
noted m t (asks q) (refused k) xs = xs
noted m t (exchange p) (Answer.edge e) xs = xs
noted m t (exchange p) done xs = xs
noted m t (exchange p) (refused k) xs = xs

-- the tables that lists of calls lead to from t, with every edge answered on the way, the latest first
pub data Run (m : Meaning) (t : Table) : List Answered → Table → Type 0 where
  begins : Run m t [] t
  goes : {xs : List Answered} {now : Table} → Run m t xs now → (c : Call) (r : Answer) (after : Table) → Step m now c r after → Run m t (noted m now c r xs) after

-- x is on the list
abbrev pub In : Answered → List Answered → Type 0
In x [] = ⊥
In x (y ∷ ys) = (x ≡ y) ⊎ In x ys

-- t' has the capacity and the variables of t, in whatever order
pub record SameCard (t t' : Table) : Type 0 where
  pub capacity : t'.capacity ≡ t.capacity
  pub count : t'.shape.count ≡ t.shape.count
  pub size : (x : ℕ) → t'.shape.size x ≡ t.shape.size x

-- what holds of every edge answered so far: it is an edge of the table and has its function, equal functions have one edge, and no diagram of the function
-- with the same labels in the present order is smaller, whatever its nodes and whether it keeps the other three rules
pub record Kept (m : Meaning) (t : Table) (xs : List Answered) : Type 0 where
  pub of : (x : Answered) → In x xs → Of m t.nodes x.edge
  pub means : (x : Answered) → In x xs → Agree t.shape (value m t.shape t.nodes x.edge) x.function
  pub unique : (x y : Answered) → In x xs → In y xs → (x.edge ≡ y.edge) ↔ Agree t.shape x.function y.function
  pub least : (x : Answered) → In x xs → (d : Nodes) (e : Edge) → Ordered m t.shape d → Over m d e → Agree t.shape (value m t.shape d e) x.function
      → size_of t.shape t.nodes x.edge ≤ size_of t.shape d e
