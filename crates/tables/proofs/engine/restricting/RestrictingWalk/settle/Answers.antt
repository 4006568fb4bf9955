use Rattle.std.proofs.Common.{arith}
use Rattle.tables.proofs.Walking.{settled_single}
use Rattle.tables.proofs.engine.restricting.RestrictingWalk.settle.Goals as goal

pub returns : goal.returns
returns c = settled_single c.args.diagrams.now c.args.task c.branch-diagrams.result c.requires.fair c.requires.of (omega arith) c.branch-diagrams.ensures
