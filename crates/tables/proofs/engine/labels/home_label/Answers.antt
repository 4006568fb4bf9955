use Rattle.mvl.specs.Charted.{home_label_at}
use Rattle.tables.proofs.ChartFacts.{home_label_low}
use Rattle.tables.proofs.engine.labels.home_label.Goals as goal

pub returns : goal.returns
returns c = record { value = home_label_at c.args.chart.now c.args.v c.requires; bound = home_label_low c.args.chart.now c.args.v c.requires }
