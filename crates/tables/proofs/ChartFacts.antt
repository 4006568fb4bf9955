-- What the rows of a chart have, with bounds. Assumes nothing.
use Rattle.std.proofs.Common.{ℕ, ◌+◌, ◌*◌, ◌<◌, get_or, sym, subst}
use Rattle.mvl.specs.declared.chart.Chart.{Chart}
use Rattle.mvl.specs.Home.{home_within, home_label_within}
use Rattle.mvl.specs.Charted.{chart_laws, carry_at, product_at, inverse_at, home_at, home_label_at}

module _ (c : Chart) where
  pub carry_low : (k v : ℕ) → k < c.labels → v < c.radix → get_or c.carries (4 * k + v) 0 < c.radix
  carry_low k v hk hv = subst (λ x. x < c.radix) (sym (carry_at c k v hk hv)) ((chart_laws c).within k v hk hv)

  pub product_low : (a b : ℕ) → a < c.labels → b < c.labels → get_or c.products (4 * a + b) 0 < c.labels
  product_low a b ha hb = subst (λ x. x < c.labels) (sym (product_at c a b ha hb)) ((chart_laws c).product_within a b ha hb)

  pub inverse_low : (a : ℕ) → a < c.labels → get_or c.inverses a 0 < c.labels
  inverse_low a ha = subst (λ x. x < c.labels) (sym (inverse_at c a ha)) ((chart_laws c).inverse_within a ha)

  pub home_low : (v : ℕ) → v < c.radix → get_or c.homes v 0 < c.radix
  home_low v hv = subst (λ x. x < c.radix) (sym (home_at c v hv)) (home_within (chart_laws c) v hv)

  pub home_label_low : (v : ℕ) → v < c.radix → get_or c.home_labels v 0 < c.labels
  home_label_low v hv = subst (λ x. x < c.labels) (sym (home_label_at c v hv)) (home_label_within (chart_laws c) v hv)
