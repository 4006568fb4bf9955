-- A clipped meaning carries as the meaning does, and keeps its laws. Assumes nothing.
use Rattle.std.specs.Prelude.{◌≡◌, ℕ, ◌<◌, ◌&&◌, nat_eq, nat_lt}
use Rattle.std.proofs.Common.{sym, ap, ap₂, subst, ◌∙◌, ltb→lt, lt→ltb}
use Rattle.std.proofs.Math.Path.{fun_ext}
use Rattle.mvl.specs.Labels.{Meaning, product, inverse, home, home_label, Laws}
use Rattle.mvl.specs.Clipped.{clipped}
use Rattle.mvl.specs.Tests.{and_left, and_right, and_both, cond_yes, cond_alike}
use Rattle.mvl.specs.Below.{all_below_cong, any_below_cong, first_below_cong}
use Rattle.mvl.specs.Home.{home_within}

-- two meanings that agree in radix, labels and what labels make of values are one when clipped
pub clip_same : (m n : Meaning) → m.radix ≡ n.radix → m.labels ≡ n.labels → ((k v : ℕ) → k < n.labels → v < n.radix → m.carry k v ≡ n.carry k v) → clipped m ≡ clipped n
clip_same m n radixes labels alike =
    ap₂ (λ p g. clipped (record { radix = p; labels = g; carry = m.carry })) radixes labels
    ∙ ap (λ (f : ℕ → ℕ → ℕ). record { radix = n.radix; labels = n.labels; carry = f })
    (fun_ext (λ k. fun_ext (λ v. cond_alike (nat_lt k n.labels && nat_lt v n.radix) (m.carry k v) (n.carry k v) 0 (λ t.
    alike k v (ltb→lt k n.labels (and_left (nat_lt k n.labels) (nat_lt v n.radix) t)) (ltb→lt v n.radix (and_right (nat_lt k n.labels) (nat_lt v n.radix) t))))))

module _ (m : Meaning) where
  -- in range it carries as the meaning does
  pub clip_carry : (k v : ℕ) → k < m.labels → v < m.radix → (clipped m).carry k v ≡ m.carry k v
  clip_carry k v hk hv =
      cond_yes (nat_lt k m.labels && nat_lt v m.radix) (m.carry k v) 0
      (and_both (nat_lt k m.labels) (nat_lt v m.radix) (lt→ltb k m.labels hk) (lt→ltb v m.radix hv))

  -- the homes are the same
  pub clip_home : (v : ℕ) → home (clipped m) v ≡ home m v
  clip_home v = first_below_cong m.radix _ _ (λ u hu. any_below_cong m.labels _ _ (λ k hk. ap (λ x. nat_eq x v) (clip_carry k u hk hu)))

module _ {m : Meaning} (l : Laws m) where
  clip_twice : (a b v : ℕ) → a < m.labels → b < m.labels → v < m.radix → (clipped m).carry a ((clipped m).carry b v) ≡ m.carry a (m.carry b v)
  clip_twice a b v ha hb hv = ap ((clipped m).carry a) (clip_carry m b v hb hv) ∙ clip_carry m a (m.carry b v) ha (l.within b v hb hv)

  -- and so are products, inverses and home labels
  pub clip_product : (a b : ℕ) → a < m.labels → b < m.labels → product (clipped m) a b ≡ product m a b
  clip_product a b ha hb =
      first_below_cong m.labels _ _ (λ k hk. all_below_cong m.radix _ _ (λ v hv. ap₂ nat_eq (clip_carry m k v hk hv) (clip_twice a b v ha hb hv)))

  pub clip_inverse : (a : ℕ) → a < m.labels → inverse (clipped m) a ≡ inverse m a
  clip_inverse a ha =
      first_below_cong m.labels _ _ (λ k hk. all_below_cong m.radix _ _ (λ v hv. ap (λ x. nat_eq x v) (clip_twice k a v hk ha hv)))

  pub clip_home_label : (v : ℕ) → v < m.radix → home_label (clipped m) v ≡ home_label m v
  clip_home_label v hv =
      first_below_cong m.labels _ _ (λ k hk. ap (λ x. nat_eq x v) (ap ((clipped m).carry k) (clip_home m v) ∙ clip_carry m k (home m v) hk (home_within l v hv)))

  -- so the laws of a meaning are those of the clipped one
  pub clip_laws : Laws (clipped m)
  clip_laws = record {
    radix_low = l.radix_low;
    radix_high = l.radix_high;
    labels_low = l.labels_low;
    labels_high = l.labels_high;
    within = λ k v hk hv. subst (λ x. x < m.radix) (sym (clip_carry m k v hk hv)) (l.within k v hk hv);
    still = λ v hv. clip_carry m 0 v l.labels_low hv ∙ l.still v hv;
    product_within = λ a b ha hb. subst (λ x. x < m.labels) (sym (clip_product a b ha hb)) (l.product_within a b ha hb);
    product_carries = λ a b v ha hb hv.
        ap (λ k. (clipped m).carry k v) (clip_product a b ha hb) ∙ clip_carry m (product m a b) v (l.product_within a b ha hb) hv
        ∙ l.product_carries a b v ha hb hv ∙ sym (clip_twice a b v ha hb hv);
    inverse_within = λ a ha. subst (λ x. x < m.labels) (sym (clip_inverse a ha)) (l.inverse_within a ha);
    inverse_carries = λ a v ha hv.
        ap (λ k. (clipped m).carry k ((clipped m).carry a v)) (clip_inverse a ha) ∙ clip_twice (inverse m a) a v (l.inverse_within a ha) ha hv
        ∙ l.inverse_carries a v ha hv;
    free = λ a b v ha hb hv e. l.free a b v ha hb hv (sym (clip_carry m a v ha hv) ∙ e ∙ clip_carry m b v hb hv);
  }
