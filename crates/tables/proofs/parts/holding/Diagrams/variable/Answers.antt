use Rattle.std.proofs.Common.{rules, arith}
use Rattle.tables.proofs.Varying.{variable_unknown, variable_large, variable_asks, variable_did}
use Rattle.tables.proofs.parts.holding.Diagrams.variable.Goals as goal

pub returns-in_err-size : goal.returns-in_err-size
returns-in_err-size c = search (rules, variable_unknown c.args.self.now c.args.x c.in_err-size.field-0.0 c.in_err-size.ensures.tested)

pub returns-then-size-self : goal.returns-then-size-self
returns-then-size-self c = variable_large c.args.self.now c.args.x c.in_ok-size.ensures.tested c.in_ok-size.ensures.size (omega arith)

pub make-requires : goal.make-requires
make-requires c = variable_asks c.args.self.now c.args.x c.in_ok-size.ensures.tested c.in_ok-size.ensures.size (omega arith) c.constants-edges.ensures

pub returns : goal.returns
returns c =
    variable_did c.args.self.now c.args.x c.in_ok-size.ensures.tested c.in_ok-size.ensures.size (omega arith) c.constants-edges.ensures c.make.result c.make.ensures
