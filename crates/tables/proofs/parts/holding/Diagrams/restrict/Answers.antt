use Rattle.std.proofs.Common.{rules}
use Rattle.tables.proofs.Applying.{restrict_strange, restrict_unfit, restrict_did}
use Rattle.tables.proofs.parts.holding.Diagrams.restrict.Goals as goal

pub returns-in_err-known : goal.returns-in_err-known
returns-in_err-known c = search (rules, restrict_strange c.args.self.now c.args.e c.args.x c.args.v c.in_err-known.ensures.0)

pub returns-in_err-size_above : goal.returns-in_err-size_above
returns-in_err-size_above c = search (rules, restrict_unfit c.args.self.now c.args.e c.args.x c.args.v c.in_ok-known.ensures c.in_err-size_above.field-0.0 c.in_err-size_above.ensures.tested)

pub returns : goal.returns
returns c =
    restrict_did c.args.self.now c.args.e c.args.x c.args.v c.in_ok-known.ensures c.in_ok-size_above.ensures.tested c.walk.result c.walk.ensures
