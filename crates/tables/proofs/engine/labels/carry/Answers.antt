use Rattle.mvl.specs.Charted.{carry_at}
use Rattle.tables.proofs.ChartFacts.{carry_low}
use Rattle.tables.proofs.engine.labels.carry.Goals as goal

pub returns : goal.returns
returns c =
    let chart = c.args.chart.now in
    record { value = carry_at chart c.args.k c.args.v c.requires.label c.requires.value; bound = carry_low chart c.args.k c.args.v c.requires.label c.requires.value }
