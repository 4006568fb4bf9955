use Rattle.std.proofs.Common.{rules}
use Rattle.mvl.proofs.Labels.Supplied.{complement_formulas}
use Rattle.mvl.proofs.complement.ComplementLabelling.inverse.Goals as goal

pub returns : goal.returns
returns c = let e = (complement_formulas c.args.self.now.radix c.args.self.now.even).inverse_is c.args.a in search rules
