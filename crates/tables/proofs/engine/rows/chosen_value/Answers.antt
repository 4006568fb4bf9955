use Rattle.std.proofs.Common.{◌-◌, sym, arith}
use Rattle.mvl.specs.Tests.{cond_equal, cond_other}
use Rattle.mvl.specs.Charted.{chart_laws}
use Rattle.tables.proofs.engine.rows.chosen_value.Goals as goal

pub overflow_sub-result : goal.overflow_sub-result
overflow_sub-result c = omega (arith, (chart_laws c.args.chart.now).radix_low)

pub returns-then-i-v : goal.returns-then-i-v
returns-then-i-v c = record {
  value = sym (cond_equal c.args.i c.args.v (c.args.chart.now.radix - 1) 0 (omega arith));
  bound = omega (arith, (chart_laws c.args.chart.now).radix_low);
}

pub returns-else-i-v : goal.returns-else-i-v
returns-else-i-v c = record {
  value = sym (cond_other c.args.i c.args.v (c.args.chart.now.radix - 1) 0 (omega arith));
  bound = omega (arith, (chart_laws c.args.chart.now).radix_low);
}
