-- Targets by their numbers, and words as edges. Assumes nothing.
use Rattle.std.proofs.Common.{◌≡◌, ℕ, ◌-◌, ◌<◌, ◌≤◌, ltb, arith, ltb→lt, lt→ltb}
use Rattle.diagrams.specs.Diagram.{terminal, node}
use Rattle.mvl.specs.Tests.{cond_yes, cond_no}
use Rattle.tables.specs.Edges.{goal}

pub goal_terminal : (t : ℕ) → t < 4 → goal t ≡ terminal t
goal_terminal t h = cond_yes (ltb t 4) (terminal t) (node (t - 4)) (lt→ltb t 4 h)

pub goal_node : (t : ℕ) → 4 ≤ t → goal t ≡ node (t - 4)
goal_node t h = cond_no (ltb t 4) (terminal t) (node (t - 4)) (λ l. let b = ltb→lt t 4 l in omega arith)
