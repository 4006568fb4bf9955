use Rattle.std.proofs.Common.{arith}
use Rattle.tables.proofs.Walking.{value_few, label_there}
use Rattle.tables.proofs.parts.holding.Diagrams.branch.Goals as goal

pub bounds-key-i : goal.bounds-key-i
bounds-key-i c = value_few c.args.self.now c.args.e c.requires.of c.in-Node.ensures.value c.key-key.ensures c.requires.value (omega arith)

pub turned_edge-requires-clause-own : goal.turned_edge-requires-clause-own
turned_edge-requires-clause-own c = label_there c.args.self.now c.args.e c.requires.of c.in-Node.ensures.value c.key-key.ensures c.requires.value (omega arith)
