use Rattle.std.proofs.Common.{arith}
use Rattle.mvl.specs.Home.{home_label_within}
use Rattle.mvl.proofs.Labels.Filled.{home_told}
use Rattle.mvl.proofs.rows.home_of.Goals as goal

-- a home label is a label
pub returns-in_err-back : goal.returns-in_err-back
returns-in_err-back g c =
    let lifts = c.in_ok-label.ensures in
    absurd (omega (arith, lifts.1, c.in_err-back.ensures.0, home_label_within (g.met.L.Labelling.lawful c.args.l.now) c.args.value lifts.0))

pub returns : goal.returns
returns g c =
    home_told (g.met.L.Labelling.lawful c.args.l.now) c.in_ok-label.ensures c.in_ok-back.ensures c.carry.result c.carry.ensures
