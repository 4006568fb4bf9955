use Rattle.std.proofs.Common.{rules}
use Rattle.tables.proofs.Applying.{apply_unfit, apply_did}
use Rattle.tables.proofs.parts.holding.Diagrams.apply.Goals as goal

pub returns-in_err-fit : goal.returns-in_err-fit
returns-in_err-fit g c = search (rules, apply_unfit c.args.self.now (g.O.Operation.meaning c.args.operation.now) c.args.e c.args.f c.radix.ensures c.in_err-fit.field-0.0 c.in_err-fit.ensures)

pub returns : goal.returns
returns g c =
    apply_did c.args.self.now (g.O.Operation.meaning c.args.operation.now) c.args.e c.args.f c.radix.ensures c.in_ok-fit.ensures
    (g.met.O.Operation.closed c.args.operation.now) c.answers_of-answers.result c.answers_of-answers.ensures c.walk.result c.walk.ensures
