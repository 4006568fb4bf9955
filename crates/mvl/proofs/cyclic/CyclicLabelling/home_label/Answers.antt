use Rattle.std.proofs.Common.{rules}
use Rattle.mvl.proofs.Labels.Supplied.{cyclic_formulas}
use Rattle.mvl.proofs.cyclic.CyclicLabelling.home_label.Goals as goal

pub returns : goal.returns
returns c = let e = (cyclic_formulas c.args.self.now.radix).home_label_is c.args.value in search rules
