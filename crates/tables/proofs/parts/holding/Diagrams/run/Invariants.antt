use Rattle.diagrams.proofs.Walk.Measure.{left}
use Rattle.tables.proofs.Looping.{Inv, pieces}
use Rattle.tables.proofs.parts.holding.Diagrams.run.Given as goal

abbrev pub invariant-loop-self : goal.invariant-loop-self
invariant-loop-self g l = Inv l.initial.self (g.W.Walk.way l.walk) l.fn.task l.self.chart l.self.card l.self.store l.frames l.k

abbrev pub decreases-loop-self : goal.decreases-loop-self
decreases-loop-self g l = left (pieces l.frames) l.k
