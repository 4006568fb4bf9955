use Rattle.mvl.specs.Charted.{product_at}
use Rattle.tables.proofs.ChartFacts.{product_low}
use Rattle.tables.proofs.engine.labels.product.Goals as goal

pub returns : goal.returns
returns c =
    let chart = c.args.chart.now in
    record { value = product_at chart c.args.a c.args.b c.requires.first c.requires.second; bound = product_low chart c.args.a c.args.b c.requires.first c.requires.second }
