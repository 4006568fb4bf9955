use Rattle.std.proofs.Common.{arith, rules}
use Rattle.tables.specs.Edges.{arrow}
use Rattle.tables.proofs.Answering.{turn_strange, turn_unlabelled, turn_known}
use Rattle.tables.proofs.parts.holding.Diagrams.turn.Goals as goal

pub returns-in_err-known : goal.returns-in_err-known
returns-in_err-known c = search (rules, turn_strange c.args.self.now (arrow c.args.e) c.args.k c.in_err-known.ensures.0)

pub returns-then-k-self : goal.returns-then-k-self
returns-then-k-self c = turn_unlabelled c.args.self.now (arrow c.args.e) c.args.k c.in_ok-known.ensures (omega arith)

pub returns : goal.returns
returns c = turn_known c.args.self.now (arrow c.args.e) c.args.k c.in_ok-known.ensures (omega arith) c.turned_edge.ensures
