-- The labels are a group that acts on the values: facts from the laws alone. Assumes nothing.
use Rattle.std.specs.Prelude.{◌≡◌, ℕ, ◌<◌}
use Rattle.std.proofs.Common.{sym, ap, ◌∙◌, arith}
use Rattle.mvl.specs.Labels.{Meaning, product, inverse, Laws}

module _ {m : Meaning} (l : Laws m) where
  -- there is label 0, and value 0
  pub zero_label_within : 0 < m.labels
  zero_label_within = omega (arith, l.labels_low)

  pub zero_value_within : 0 < m.radix
  zero_value_within = omega (arith, l.radix_low)

  -- a label carries no two values to one
  pub carry_cancel : {a v w : ℕ} → a < m.labels → v < m.radix → w < m.radix → m.carry a v ≡ m.carry a w → v ≡ w
  carry_cancel {a} {v} {w} ha hv hw e =
      sym (l.inverse_carries a v ha hv) ∙ ap (m.carry (inverse m a)) e ∙ l.inverse_carries a w ha hw

  -- what the inverse carried, the label carries back
  pub carries_inverse : (a v : ℕ) → a < m.labels → v < m.radix → m.carry a (m.carry (inverse m a) v) ≡ v
  carries_inverse a v ha hv =
      let hi = l.inverse_within a ha in
      let hu = l.within (inverse m a) v hi hv in
      carry_cancel hi (l.within a (m.carry (inverse m a) v) ha hu) hv (l.inverse_carries a (m.carry (inverse m a) v) ha hu)

  -- label 0 is the neutral one, on either side
  pub product_zero : (a : ℕ) → a < m.labels → product m a 0 ≡ a
  product_zero a ha =
      l.free (product m a 0) a 0 (l.product_within a 0 ha zero_label_within) ha zero_value_within
      (l.product_carries a 0 0 ha zero_label_within zero_value_within ∙ ap (m.carry a) (l.still 0 zero_value_within))

  pub zero_product : (a : ℕ) → a < m.labels → product m 0 a ≡ a
  zero_product a ha =
      l.free (product m 0 a) a 0 (l.product_within 0 a zero_label_within ha) ha zero_value_within
      (l.product_carries 0 a 0 zero_label_within ha zero_value_within ∙ l.still (m.carry a 0) (l.within a 0 ha zero_value_within))

  -- labels cancel on the left
  pub product_cancel : {a b c : ℕ} → a < m.labels → b < m.labels → c < m.labels → product m a b ≡ product m a c → b ≡ c
  product_cancel {a} {b} {c} ha hb hc e =
      l.free b c 0 hb hc zero_value_within
      (carry_cancel ha (l.within b 0 hb zero_value_within) (l.within c 0 hc zero_value_within)
      (sym (l.product_carries a b 0 ha hb zero_value_within) ∙ ap (λ k. m.carry k 0) e ∙ l.product_carries a c 0 ha hc zero_value_within))

  -- a label and its inverse give label 0, on either side
  pub inverse_product : (a : ℕ) → a < m.labels → product m (inverse m a) a ≡ 0
  inverse_product a ha =
      let hi = l.inverse_within a ha in
      l.free (product m (inverse m a) a) 0 0 (l.product_within (inverse m a) a hi ha) zero_label_within zero_value_within
      (l.product_carries (inverse m a) a 0 hi ha zero_value_within ∙ l.inverse_carries a 0 ha zero_value_within ∙ sym (l.still 0 zero_value_within))

  pub product_inverse : (a : ℕ) → a < m.labels → product m a (inverse m a) ≡ 0
  product_inverse a ha =
      let hi = l.inverse_within a ha in
      l.free (product m a (inverse m a)) 0 0 (l.product_within a (inverse m a) ha hi) zero_label_within zero_value_within
      (l.product_carries a (inverse m a) 0 ha hi zero_value_within ∙ carries_inverse a 0 ha zero_value_within ∙ sym (l.still 0 zero_value_within))

  -- products group either way
  pub product_assoc : (a b c : ℕ) → a < m.labels → b < m.labels → c < m.labels → product m (product m a b) c ≡ product m a (product m b c)
  product_assoc a b c ha hb hc =
      let hab = l.product_within a b ha hb in
      let hbc = l.product_within b c hb hc in
      let z = zero_value_within in
      l.free (product m (product m a b) c) (product m a (product m b c)) 0 (l.product_within (product m a b) c hab hc) (l.product_within a (product m b c) ha hbc) z
      (l.product_carries (product m a b) c 0 hab hc z ∙ l.product_carries a b (m.carry c 0) ha hb (l.within c 0 hc z)
      ∙ sym (l.product_carries a (product m b c) 0 ha hbc z ∙ ap (m.carry a) (l.product_carries b c 0 hb hc z)))
