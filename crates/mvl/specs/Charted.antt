-- Every chart keeps the laws, and its rows have the answers. Assumes nothing.
use Rattle.std.specs.Prelude.{◌≡◌, ℕ, ◌+◌, ◌*◌, ◌<◌, slice_index}
use Rattle.std.proofs.Common.{sym}
use Rattle.mvl.specs.Labels.{Laws, product, inverse, home, home_label}
use Rattle.mvl.specs.Charts.{chart_meaning}
use Rattle.mvl.specs.declared.chart.Chart.{Chart}
use Rattle.mvl.specs.Clip.{clip_carry}
use Rattle.mvl.specs.Unique.{laws_out}

pub chart_laws : (c : Chart) → Laws (chart_meaning c)
chart_laws c = laws_out c.lawful

module _ (c : Chart) where
  pub carry_at : (k v : ℕ) → k < c.labels → v < c.radix → slice_index c.carries (4 * k + v) ≡ (chart_meaning c).carry k v
  carry_at k v hk hv = sym (clip_carry (record { radix = c.radix; labels = c.labels; carry = λ k v. slice_index c.carries (4 * k + v) }) k v hk hv)

  pub product_at : (a b : ℕ) → a < c.labels → b < c.labels → slice_index c.products (4 * a + b) ≡ product (chart_meaning c) a b
  product_at = c.products_told

  pub inverse_at : (a : ℕ) → a < c.labels → slice_index c.inverses a ≡ inverse (chart_meaning c) a
  inverse_at = c.inverses_told

  pub home_at : (v : ℕ) → v < c.radix → slice_index c.homes v ≡ home (chart_meaning c) v
  home_at = c.homes_told

  pub home_label_at : (v : ℕ) → v < c.radix → slice_index c.home_labels v ≡ home_label (chart_meaning c) v
  home_label_at = c.home_labels_told
