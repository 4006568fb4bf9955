-- What a chart means. Assumes nothing.
use Rattle.mvl.specs.Labels.{Meaning}
use Rattle.mvl.specs.Rows.{rows_meaning}
use Rattle.mvl.specs.declared.chart.Chart.{Chart}

abbrev pub chart_meaning : Chart → Meaning
chart_meaning c = rows_meaning c.radix c.labels c.carries
