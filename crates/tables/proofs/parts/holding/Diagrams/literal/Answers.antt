use Rattle.std.proofs.Common.{rules}
use Rattle.tables.proofs.Varying.{literal_unfit, literal_asks, literal_did}
use Rattle.tables.proofs.parts.holding.Diagrams.literal.Goals as goal

pub returns-in_err-size : goal.returns-in_err-size
returns-in_err-size c = search (rules, literal_unfit c.args.self.now c.args.x c.args.v c.in_err-size.field-0.0 c.in_err-size.ensures.tested)

pub make-requires : goal.make-requires
make-requires c = literal_asks c.args.self.now c.args.x c.args.v c.in_ok-size.ensures.tested c.in_ok-size.ensures.size c.chosen-edges.ensures

pub returns : goal.returns
returns c =
    literal_did c.args.self.now c.args.x c.args.v c.in_ok-size.ensures.tested c.in_ok-size.ensures.size c.chosen-edges.ensures c.make.result c.make.ensures
