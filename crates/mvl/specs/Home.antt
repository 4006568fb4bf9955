-- The home of a value: the least value of its orbit, and the label that leads back. Assumes nothing.
use Rattle.std.specs.Prelude.{◌≡◌, ℕ, ◌<◌, ◌≤◌, Bool, T, nat_eq, refl}
use Rattle.std.proofs.Common.{sym, ap, ◌∙◌, arith, eqb→eq}
use Rattle.mvl.specs.Search.{any_below}
use Rattle.mvl.specs.Labels.{Meaning, product, inverse, home, home_label, Laws}
use Rattle.mvl.specs.Tests.{equal_passes}
use Rattle.mvl.specs.Below.{any_below_from, any_below_finds, first_below_least, first_below_passes, first_below_same}
use Rattle.mvl.specs.Action.{zero_label_within}

module _ {m : Meaning} (l : Laws m) where
  -- u reaches v: some label carries u to v
  abbrev reaching : ℕ → ℕ → Bool
  reaching v u = any_below m.labels (λ k. nat_eq (m.carry k u) v)

  reaches_by : (v u k : ℕ) → k < m.labels → m.carry k u ≡ v → T (reaching v u)
  reaches_by v u k hk e = any_below_from m.labels (λ j. nat_eq (m.carry j u) v) k hk (equal_passes e)

  reached_by : (v u : ℕ) → T (reaching v u) → (k : ℕ) × (k < m.labels) × (m.carry k u ≡ v)
  reached_by v u t =
      let found = any_below_finds m.labels (λ j. nat_eq (m.carry j u) v) t in
      (found.0, found.1, eqb→eq (m.carry found.0 u) v found.2)

  reaches_itself : (v : ℕ) → v < m.radix → T (reaching v v)
  reaches_itself v hv = reaches_by v v 0 (zero_label_within l) (l.still v hv)

  -- a value's home is above no value that some label carries to it, and not above it
  pub home_least : (v u k : ℕ) → u < m.radix → k < m.labels → m.carry k u ≡ v → home m v ≤ u
  home_least v u k hu hk e = first_below_least m.radix (reaching v) u hu (reaches_by v u k hk e)

  pub home_low : (v : ℕ) → v < m.radix → home m v ≤ v
  home_low v hv = home_least v v 0 hv (zero_label_within l) (l.still v hv)

  pub home_within : (v : ℕ) → v < m.radix → home m v < m.radix
  home_within v hv = omega (arith, home_low v hv)

  -- some label carries a value's home to it
  home_reaches : (v : ℕ) → v < m.radix → (k : ℕ) × (k < m.labels) × (m.carry k (home m v) ≡ v)
  home_reaches v hv = reached_by v (home m v) (first_below_passes m.radix (reaching v) v hv (reaches_itself v hv))

  -- the home label is a label, and carries the home to the value
  pub home_label_within : (v : ℕ) → v < m.radix → home_label m v < m.labels
  home_label_within v hv =
      let r = home_reaches v hv in
      omega (arith, first_below_least m.labels (λ k. nat_eq (m.carry k (home m v)) v) r.0 r.1 (equal_passes r.2), r.1)

  pub home_label_carries : (v : ℕ) → v < m.radix → m.carry (home_label m v) (home m v) ≡ v
  home_label_carries v hv =
      let r = home_reaches v hv in
      eqb→eq (m.carry (home_label m v) (home m v)) v (first_below_passes m.labels (λ k. nat_eq (m.carry k (home m v)) v) r.0 r.1 (equal_passes r.2))

  -- and its inverse carries the value home
  pub carried_home : (v : ℕ) → v < m.radix → m.carry (inverse m (home_label m v)) v ≡ home m v
  carried_home v hv =
      ap (m.carry (inverse m (home_label m v))) (sym (home_label_carries v hv))
      ∙ l.inverse_carries (home_label m v) (home m v) (home_label_within v hv) (home_within v hv)

  -- a value that a label carried has the same home
  pub home_carried : (a v : ℕ) → a < m.labels → v < m.radix → home m (m.carry a v) ≡ home m v
  home_carried a v ha hv = first_below_same m.radix (reaching (m.carry a v)) (reaching v) v hv (reaches_by (m.carry a v) v a ha refl) back there
    where
      there : (u : ℕ) → u < m.radix → T (reaching v u) → T (reaching (m.carry a v) u)
      there u hu t =
          let r = reached_by v u t in
          reaches_by (m.carry a v) u (product m a r.0) (l.product_within a r.0 ha r.1) (l.product_carries a r.0 u ha r.1 hu ∙ ap (m.carry a) r.2)

      back : (u : ℕ) → u < m.radix → T (reaching (m.carry a v) u) → T (reaching v u)
      back u hu t =
          let r = reached_by (m.carry a v) u t in
          let hi = l.inverse_within a ha in
          reaches_by v u (product m (inverse m a) r.0) (l.product_within (inverse m a) r.0 hi r.1)
          (l.product_carries (inverse m a) r.0 u hi r.1 hu ∙ ap (m.carry (inverse m a)) r.2 ∙ l.inverse_carries a v ha hv)

  -- a home is its own home
  pub home_home : (v : ℕ) → v < m.radix → home m (home m v) ≡ home m v
  home_home v hv =
      sym (home_carried (home_label m v) (home m v) (home_label_within v hv) (home_within v hv)) ∙ ap (home m) (home_label_carries v hv)

  -- homes that labels carry to one value are the same
  pub homes_same : {a b v w : ℕ} → a < m.labels → b < m.labels → v < m.radix → w < m.radix → home m v ≡ v → home m w ≡ w → m.carry a v ≡ m.carry b w → v ≡ w
  homes_same {a} {b} {v} {w} ha hb hv hw v-home w-home e =
      sym v-home ∙ sym (home_carried a v ha hv) ∙ ap (home m) e ∙ home_carried b w hb hw ∙ w-home

  -- and then the labels are the same too
  pub labels_same : {a b v w : ℕ} → a < m.labels → b < m.labels → v < m.radix → w < m.radix → home m v ≡ v → home m w ≡ w → m.carry a v ≡ m.carry b w → a ≡ b
  labels_same {a} {b} {v} ha hb hv hw v-home w-home e =
      l.free a b v ha hb hv (e ∙ ap (m.carry b) (sym (homes_same ha hb hv hw v-home w-home e)))
