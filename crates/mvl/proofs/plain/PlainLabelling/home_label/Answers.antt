use Rattle.std.proofs.Common.{rules}
use Rattle.mvl.proofs.Labels.Supplied.{plain_formulas}
use Rattle.mvl.proofs.plain.PlainLabelling.home_label.Goals as goal

pub returns : goal.returns
returns c = let e = (plain_formulas c.args.self.now.radix).home_label_is c.args.value in search rules
