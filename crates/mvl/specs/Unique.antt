-- The laws hold in one way at most, so they come out of a truncation. Assumes nothing.
use Rattle.std.specs.Prelude.{◌≡◌, ℕ}
use Rattle.std.proofs.Math.Logic.{∥∥₁_elim}
use Rattle.std.proofs.Math.Bridge.{le_prop}
use Rattle.std.proofs.Math.Nat.{ℕ_set}
use Rattle.mvl.specs.Labels.{Meaning, Laws}

pub ℕ-prop : {a b : ℕ} → IsProp (a ≡ b)
ℕ-prop {a} {b} = ℕ_set a b

pub laws_prop : (m : Meaning) → IsProp (Laws m)
laws_prop m x y = λ i. record {
  radix_low = le_prop x.radix_low y.radix_low i;
  radix_high = le_prop x.radix_high y.radix_high i;
  labels_low = le_prop x.labels_low y.labels_low i;
  labels_high = le_prop x.labels_high y.labels_high i;
  within = λ k v hk hv. le_prop (x.within k v hk hv) (y.within k v hk hv) i;
  still = λ v hv. ℕ-prop (x.still v hv) (y.still v hv) i;
  product_within = λ a b ha hb. le_prop (x.product_within a b ha hb) (y.product_within a b ha hb) i;
  product_carries = λ a b v ha hb hv. ℕ-prop (x.product_carries a b v ha hb hv) (y.product_carries a b v ha hb hv) i;
  inverse_within = λ a ha. le_prop (x.inverse_within a ha) (y.inverse_within a ha) i;
  inverse_carries = λ a v ha hv. ℕ-prop (x.inverse_carries a v ha hv) (y.inverse_carries a v ha hv) i;
  free = λ a b v ha hb hv e. ℕ-prop (x.free a b v ha hb hv e) (y.free a b v ha hb hv e) i;
}

pub laws_out : {m : Meaning} → ∥ Laws m ∥₁ → Laws m
laws_out {m} t = ∥∥₁_elim t (laws_prop m) (λ l. l)
