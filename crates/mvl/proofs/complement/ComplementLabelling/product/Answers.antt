use Rattle.std.proofs.Common.{rules}
use Rattle.mvl.proofs.Labels.Supplied.{complement_formulas}
use Rattle.mvl.proofs.complement.ComplementLabelling.product.Goals as goal

pub returns : goal.returns
returns c = let e = (complement_formulas c.args.self.now.radix c.args.self.now.even).product_is c.args.a c.args.b in search rules
