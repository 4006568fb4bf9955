use Rattle.std.proofs.Common.{arith}
use Rattle.tables.proofs.Answering.{constant_large, constant_known}
use Rattle.tables.proofs.parts.holding.Diagrams.constant.Goals as goal

pub returns-then-v-self : goal.returns-then-v-self
returns-then-v-self c = constant_large c.args.self.now c.args.v (omega arith)

pub returns : goal.returns
returns c = constant_known c.args.self.now c.args.v (omega arith) c.constant_edge.ensures
