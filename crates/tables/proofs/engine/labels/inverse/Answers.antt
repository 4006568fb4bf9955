use Rattle.mvl.specs.Charted.{inverse_at}
use Rattle.tables.proofs.ChartFacts.{inverse_low}
use Rattle.tables.proofs.engine.labels.inverse.Goals as goal

pub returns : goal.returns
returns c = record { value = inverse_at c.args.chart.now c.args.a c.requires; bound = inverse_low c.args.chart.now c.args.a c.requires }
