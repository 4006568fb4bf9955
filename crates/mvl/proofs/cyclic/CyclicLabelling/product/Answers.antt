use Rattle.std.proofs.Common.{rules}
use Rattle.mvl.proofs.Labels.Supplied.{cyclic_formulas}
use Rattle.mvl.proofs.cyclic.CyclicLabelling.product.Goals as goal

pub returns : goal.returns
returns c = let e = (cyclic_formulas c.args.self.now.radix).product_is c.args.a c.args.b in search rules
