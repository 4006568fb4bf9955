use Rattle.std.proofs.Common.{rules}
use Rattle.mvl.proofs.Labels.Supplied.{plain_formulas}
use Rattle.mvl.proofs.plain.PlainLabelling.inverse.Goals as goal

pub returns : goal.returns
returns c = let e = (plain_formulas c.args.self.now.radix).inverse_is c.args.a in search rules
