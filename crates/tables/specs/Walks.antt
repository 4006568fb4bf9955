-- The tasks and frames of the engine as the theory's, and what a walk gives. Assumes nothing.
use Rattle.std.specs.Prelude.{◌≡◌, ℕ, ◌+◌, ◌*◌, ◌<◌, ◌≤◌, List, length, Ok, Err, Result, slice_index, slice_set}
use Rattle.mvl.specs.Operations.{Binary}
use Rattle.mvl.specs.declared.refusal.Refusal.{Refusal}
use Rattle.mvl.specs.declared.refusal.Refusal.TheVariants.{NoRoom}
use Rattle.diagrams.specs.Functions.{Function}
use Rattle.diagrams.specs.Diagram.{population}
use Rattle.diagrams.specs.Build.{Gains, lacking}
use Rattle.diagrams.specs.Walk.{Fair, TaskOf, meant, Settles, Needs, Walk as Way, Task as Pair}
use Rattle.tables.specs.declared.parts.edge.Edge.{Edge}
use Rattle.tables.specs.declared.engine.task.Task.{Task}
use Rattle.tables.specs.declared.engine.frame.Frame.{Frame}
use Rattle.tables.specs.declared.engine.task.Next.{Next}
use Rattle.tables.specs.declared.engine.task.Next.TheVariants.{Settled, Split}
use Rattle.tables.specs.declared.parts.holding.Diagrams.{Diagrams}
use Rattle.tables.specs.Edges.{arrow}
use Rattle.tables.specs.Cards.{shape_of, capacity_of}
use Rattle.tables.specs.Stores.{items}
use Rattle.tables.specs.Did.{meaning_of, nodes_of}
use Rattle.tables.specs.Makes.{Grown}

-- an operation by its answers in a list, that of (a, b) at 4 * a + b
abbrev pub told : List ℕ → ℕ → ℕ → ℕ
told answers a b = slice_index answers (4 * a + b)

-- the answers of an operation stand there
abbrev pub Tabulates : Binary → List ℕ → Type 0
Tabulates o answers = (a b : ℕ) → a < o.radix → b < o.radix → told answers a b ≡ o.answer a b

abbrev pub task_of : Task → Pair
task_of t = record { left = arrow t.left; right = arrow t.right }

-- a frame for task t at variable y, with no edge yet
pub record Begins (t : Task) (y : ℕ) (g : Frame) : Type 0 where
  pub task : g.task ≡ t
  pub variable : g.variable ≡ y
  pub done : g.done ≡ 0

-- frame g is f with r for its next edge
pub record Extended (f : Frame) (r : Edge) (g : Frame) : Type 0 where
  pub task : g.task ≡ f.task
  pub variable : g.variable ≡ f.variable
  pub done : g.done ≡ f.done + 1
  pub edges : g.edges ≡ slice_set f.edges f.done r
  pub four : length f.edges ≡ 4

-- a walk in a table, and a task of its edges
abbrev pub WalkIn : Diagrams → Way → Type 0
WalkIn d w = Fair (meaning_of d) (shape_of d.card) w

abbrev pub TaskIn : Diagrams → Task → Type 0
TaskIn d t = TaskOf (meaning_of d) (nodes_of d) (task_of t)

-- the task is taken apart at variable y
abbrev pub SplitsAt : Diagrams → Way → Task → ℕ → Type 0
SplitsAt d w t y = Needs (meaning_of d) (shape_of d.card) (nodes_of d) w (task_of t) y

-- an edge serves for the task, or it is taken apart
abbrev pub ComesTo : Diagrams → Way → Task → Next → Type 0
ComesTo d w t (Settled r) = Settles (meaning_of d) (shape_of d.card) (nodes_of d) w (task_of t) (arrow r)
ComesTo d w t (Split y) = SplitsAt d w t y

-- the function of a task
abbrev pub walked : Diagrams → Way → Task → Function
walked d w t = meant (meaning_of d) (shape_of d.card) (nodes_of d) w (task_of t)

-- an edge for the task, in a table with exactly the nodes more that it needs
pub record Gained (before : Diagrams) (w : Way) (t : Task) (r : Edge) (after : Diagrams) : Type 0 where
  pub grown : Grown before after
  pub gains : Gains (meaning_of before) (shape_of before.card) (nodes_of before) (walked before w t) (nodes_of after) (arrow r)

-- there is not enough room for the nodes that it needs, some of which may have been added
pub record Short (before : Diagrams) (w : Way) (t : Task) (k : Refusal) (after : Diagrams) : Type 0 where
  pub grown : Grown before after
  pub is : k ≡ NoRoom
  pub lacks : capacity_of before.card + 1 ≤ population (nodes_of before) + lacking (meaning_of before) (shape_of before.card) (nodes_of before) (walked before w t)

abbrev pub Walks : Diagrams → Way → Task → Result Edge Refusal → Diagrams → Type 0
Walks before w t (Ok r) after = Gained before w t r after
Walks before w t (Err k) after = Short before w t k after

-- the same, where what was added is taken back if there is not enough room
abbrev pub Walked : Diagrams → Way → Task → Result Edge Refusal → Diagrams → Type 0
Walked before w t (Ok r) after = Gained before w t r after
Walked before w t (Err k) after = Short before w t k after × (items after.store ≡ items before.store)
