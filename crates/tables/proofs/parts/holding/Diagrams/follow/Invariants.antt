use Rattle.std.proofs.Common.{◌-◌}
use Rattle.tables.specs.Edges.{arrow, target_of}
use Rattle.tables.specs.Evaluates.{assigned}
use Rattle.tables.proofs.Following.{Following}
use Rattle.tables.proofs.parts.holding.Diagrams.follow.Given as goal

abbrev pub invariant-loop-target : goal.invariant-loop-target
invariant-loop-target l = Following l.self (arrow l.fn.e) (assigned l.assignment) l.label (target_of l.target) l.visited

abbrev pub decreases-loop-target : goal.decreases-loop-target
decreases-loop-target l = l.self.card.n - l.visited
