use Rattle.std.proofs.Common.{rules}
use Rattle.mvl.proofs.Labels.Supplied.{plain_formulas}
use Rattle.mvl.proofs.plain.PlainLabelling.product.Goals as goal

pub returns : goal.returns
returns c = let e = (plain_formulas c.args.self.now.radix).product_is c.args.a c.args.b in search rules
