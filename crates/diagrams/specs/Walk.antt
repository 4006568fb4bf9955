-- Walks: an operation applied to two edges, or an edge restricted, by one task for each part of the diagram. Assumes nothing.
use Rattle.std.specs.Prelude.{◌≡◌, ℕ, ◌<◌, ◌≤◌, min}
use Rattle.mvl.specs.Labels.{Meaning}
use Rattle.diagrams.specs.Shape.{Shape, updated}
use Rattle.diagrams.specs.Functions.{Function, Agree}
use Rattle.diagrams.specs.Diagram.{Edge, Nodes, value, level, Of}
use Rattle.diagrams.specs.Exchange.{through}

-- what is done to the edges of every task: an operation is applied to them, or the left one is restricted to x = v
pub data Walk : Type 0 where
  applies : (op : ℕ → ℕ → ℕ) → Walk
  restricts : (x v : ℕ) → Walk

-- the operation answers values below the radix, and x and v are a variable and a value of it
abbrev pub Fair : Meaning → Shape → Walk → Type 0
Fair m s (applies op) = (a b : ℕ) → a < m.radix → b < m.radix → op a b < m.radix
Fair m s (restricts x v) = (x < s.count) × (v < s.size x)

-- the two edges of a task; a restriction has any edge on the right, and never looks at it
pub record Task : Type 0 where
  pub left : Edge
  pub right : Edge

-- both are edges of d
pub record TaskOf (m : Meaning) (d : Nodes) (t : Task) : Type 0 where
  pub left : Of m d t.left
  pub right : Of m d t.right

-- the function of a task
abbrev pub meant : Meaning → Shape → Nodes → Walk → Task → Function
meant m s d (applies op) t a = op (value m s d t.left a) (value m s d t.right a)
meant m s d (restricts x v) t a = value m s d t.left (updated a x v)

-- the place of a task: of the topmost of the targets that count
abbrev pub task_level : Shape → Nodes → Walk → Task → ℕ
task_level s d (applies op) t = min (level s d t.left.target) (level s d t.right.target)
task_level s d (restricts x v) t = level s d t.left.target

-- edge e where variable y has value i: a node of y is gone through, any other target stays
abbrev pub follow : Meaning → Nodes → ℕ → ℕ → Edge → Edge
follow m d y i e = through m d y i e e.target

-- the task where y has value i
abbrev pub child : Meaning → Nodes → ℕ → ℕ → Task → Task
child m d y i t = record { left = follow m d y i t.left; right = follow m d y i t.right }

-- edge r serves for the task: it has its function, and leads no higher
pub record Settles (m : Meaning) (s : Shape) (d : Nodes) (w : Walk) (t : Task) (r : Edge) : Type 0 where
  pub of : Of m d r
  pub high : task_level s d w t ≤ level s d r.target
  pub means : Agree s (value m s d r) (meant m s d w t)

-- a restriction to x = v goes through the variables above x alone
abbrev pub Before : Shape → Walk → ℕ → Type 0
Before s (applies op) y = Unit {0}
Before s (restricts x v) y = s.place y < s.place x

-- the task needs a node of variable y: y is the variable of its topmost target
pub record Needs (m : Meaning) (s : Shape) (d : Nodes) (w : Walk) (t : Task) (y : ℕ) : Type 0 where
  pub task_of : TaskOf m d t
  pub within : y < s.count
  pub topmost : s.place y ≡ task_level s d w t
  pub before : Before s w y
