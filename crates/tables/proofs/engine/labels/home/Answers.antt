use Rattle.mvl.specs.Charted.{home_at}
use Rattle.tables.proofs.ChartFacts.{home_low}
use Rattle.tables.proofs.engine.labels.home.Goals as goal

pub returns : goal.returns
returns c = record { value = home_at c.args.chart.now c.args.v c.requires; bound = home_low c.args.chart.now c.args.v c.requires }
