use Rattle.tables.proofs.Looping.{gained_already}
use Rattle.tables.proofs.parts.holding.Diagrams.try_walk.Goals as goal

pub returns-in-Settled : goal.returns-in-Settled
returns-in-Settled g c = gained_already c.args.self.now c.args.task c.requires.fair c.requires.of c.in-Settled.r c.in-Settled.ensures
