use Rattle.std.proofs.Common.{rules}
use Rattle.mvl.proofs.Labels.Supplied.{cyclic_formulas}
use Rattle.mvl.proofs.cyclic.CyclicLabelling.inverse.Goals as goal

pub returns : goal.returns
returns c = let e = (cyclic_formulas c.args.self.now.radix).inverse_is c.args.a in search rules
