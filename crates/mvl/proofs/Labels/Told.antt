-- A label is told by where it carries one value, so a labelling proves its answers by that alone. Assumes nothing.
use Rattle.std.proofs.Common.{◌≡◌, ℕ, ◌<◌, sym, ap, ◌∙◌, ⊎_elim, arith}
use Rattle.std.proofs.lemmas.Bool.{cases_lt}
use Rattle.mvl.specs.Labels.{Meaning, product, inverse, home, home_label, Laws}
use Rattle.mvl.specs.Action.{zero_value_within}
use Rattle.mvl.specs.Home.{home_least, home_label_within, home_label_carries}

module _ {m : Meaning} (l : Laws m) where
  -- the label that carries value 0 to where b and then a carry it is their product
  pub product_told : (a b k : ℕ) → a < m.labels → b < m.labels → k < m.labels → m.carry k 0 ≡ m.carry a (m.carry b 0) → k ≡ product m a b
  product_told a b k ha hb hk e =
      let z = zero_value_within l in
      l.free k (product m a b) 0 hk (l.product_within a b ha hb) z (e ∙ sym (l.product_carries a b 0 ha hb z))

  -- the label that carries value 0 back from where a carried it is its inverse
  pub inverse_told : (a k : ℕ) → a < m.labels → k < m.labels → m.carry k (m.carry a 0) ≡ 0 → k ≡ inverse m a
  inverse_told a k ha hk e =
      let z = zero_value_within l in
      l.free k (inverse m a) (m.carry a 0) hk (l.inverse_within a ha) (l.within a 0 ha z) (e ∙ sym (l.inverse_carries a 0 ha z))

  -- where k carries u to v, and no label carries a smaller value there, u is the home of v, and k its home label
  module _ (v u k : ℕ) (hv : v < m.radix) (hu : u < m.radix) (hk : k < m.labels) (carries : m.carry k u ≡ v)
      (least : (w j : ℕ) → w < u → j < m.labels → m.carry j w ≡ v → ⊥) where
    pub home_told : home m v ≡ u
    home_told =
        let low = home_least l v u k hu hk carries in
        ⊎_elim
        (λ h. absurd (least (home m v) (home_label m v) h (home_label_within l v hv) (home_label_carries l v hv)))
        (λ h. omega arith)
        (cases_lt (home m v) u)

    pub home_label_told : k ≡ home_label m v
    home_label_told =
        l.free k (home_label m v) u hk (home_label_within l v hv) hu
        (carries ∙ sym (ap (m.carry (home_label m v)) (sym home_told) ∙ home_label_carries l v hv))
