-- The laws as a test over every label and value: what passes it keeps them. Assumes nothing.
use Rattle.std.specs.Prelude.{◌≡◌, ℕ, zero, suc, ◌%◌, ◌<◌, ◌≤◌, Bool, not, ◌&&◌, ◌||◌, T, ◌==◌, nat_eq, nat_le, nat_lt}
use Rattle.std.proofs.Common.{⊎_elim, arith, eqb→eq, ltb→lt, leb→le, T_not}
use Rattle.std.proofs.Math.Facts.{and_yes}
use Rattle.mvl.specs.Search.{all_below}
use Rattle.mvl.specs.Labels.{Meaning, product, inverse, Laws}
use Rattle.mvl.specs.Tests.{equal_passes, or_either}
use Rattle.mvl.specs.Below.{all_below_at}

-- a test of every pair
each_pair : (n k : ℕ) (p : ℕ → ℕ → Bool) → T (all_below n (λ i. all_below k (p i))) → (i j : ℕ) → i < n → j < k → T (p i j)
each_pair n k p t i j hi hj = all_below_at k (p i) (all_below_at n (λ i. all_below k (p i)) t i hi) j hj

-- the laws as tests
module _ (m : Meaning) where
  abbrev sizes : Bool
  sizes = (nat_le 2 m.radix && nat_le m.radix 4) && (nat_le 1 m.labels && nat_le m.labels 4)

  abbrev stays_within : ℕ → ℕ → Bool
  stays_within k v = nat_lt (m.carry k v) m.radix

  abbrev stands_still : ℕ → Bool
  stands_still v = m.carry 0 v == v

  abbrev multiplies : ℕ → ℕ → Bool
  multiplies a b = nat_lt (product m a b) m.labels && all_below m.radix (λ v. nat_eq (m.carry (product m a b) v) (m.carry a (m.carry b v)))

  abbrev inverts : ℕ → Bool
  inverts a = nat_lt (inverse m a) m.labels && all_below m.radix (λ v. nat_eq (m.carry (inverse m a) (m.carry a v)) v)

  abbrev tells_apart : ℕ → ℕ → Bool
  tells_apart a b = a == b || all_below m.radix (λ v. not (m.carry a v == m.carry b v))

  abbrev carrying : Bool
  carrying = all_below m.labels (λ k. all_below m.radix (stays_within k)) && all_below m.radix stands_still

  abbrev acting : Bool
  acting =
      all_below m.labels (λ a. all_below m.labels (multiplies a)) &&
      (all_below m.labels inverts && all_below m.labels (λ a. all_below m.labels (tells_apart a)))

  -- all the tests
  abbrev pub lawful : Bool
  lawful = sizes && (carrying && acting)

  -- a labelling that passes them keeps the laws
  pub lawful_laws : T lawful → Laws m
  lawful_laws t =
      let p = and_yes sizes (carrying && acting) t in
      let z = and_yes (nat_le 2 m.radix && nat_le m.radix 4) (nat_le 1 m.labels && nat_le m.labels 4) p.0 in
      let r = and_yes (nat_le 2 m.radix) (nat_le m.radix 4) z.0 in
      let g = and_yes (nat_le 1 m.labels) (nat_le m.labels 4) z.1 in
      let q = and_yes carrying acting p.1 in
      let c = and_yes (all_below m.labels (λ k. all_below m.radix (stays_within k))) (all_below m.radix stands_still) q.0 in
      let x = and_yes (all_below m.labels (λ a. all_below m.labels (multiplies a)))
      (all_below m.labels inverts && all_below m.labels (λ a. all_below m.labels (tells_apart a))) q.1 in
      let y = and_yes (all_below m.labels inverts) (all_below m.labels (λ a. all_below m.labels (tells_apart a))) x.1 in
      let times = λ (a b : ℕ) (ha : a < m.labels) (hb : b < m.labels). and_yes (nat_lt (product m a b) m.labels)
      (all_below m.radix (λ v. nat_eq (m.carry (product m a b) v) (m.carry a (m.carry b v)))) (each_pair m.labels m.labels multiplies x.0 a b ha hb) in
      let back = λ (a : ℕ) (ha : a < m.labels). and_yes (nat_lt (inverse m a) m.labels) (all_below m.radix (λ v. nat_eq (m.carry (inverse m a) (m.carry a v)) v))
      (all_below_at m.labels inverts y.0 a ha) in
      record {
        radix_low = leb→le 2 m.radix r.0;
        radix_high = leb→le m.radix 4 r.1;
        labels_low = leb→le 1 m.labels g.0;
        labels_high = leb→le m.labels 4 g.1;
        within = λ k v hk hv. ltb→lt (m.carry k v) m.radix (each_pair m.labels m.radix stays_within c.0 k v hk hv);
        still = λ v hv. eqb→eq (m.carry 0 v) v (all_below_at m.radix stands_still c.1 v hv);
        product_within = λ a b ha hb. ltb→lt (product m a b) m.labels (times a b ha hb).0;
        product_carries = λ a b v ha hb hv. eqb→eq (m.carry (product m a b) v) (m.carry a (m.carry b v))
            (all_below_at m.radix (λ v. nat_eq (m.carry (product m a b) v) (m.carry a (m.carry b v))) (times a b ha hb).1 v hv);
        inverse_within = λ a ha. ltb→lt (inverse m a) m.labels (back a ha).0;
        inverse_carries = λ a v ha hv. eqb→eq (m.carry (inverse m a) (m.carry a v)) v
            (all_below_at m.radix (λ v. nat_eq (m.carry (inverse m a) (m.carry a v)) v) (back a ha).1 v hv);
        free = λ a b v ha hb hv same.
            ⊎_elim
            (λ t. eqb→eq a b t)
            (λ t. absurd (T_not (m.carry a v == m.carry b v) (all_below_at m.radix (λ v. not (m.carry a v == m.carry b v)) t v hv) (equal_passes same)))
            (or_either (a == b) (all_below m.radix (λ v. not (m.carry a v == m.carry b v))) (each_pair m.labels m.labels tells_apart y.1 a b ha hb));
      }

-- a radix from 2 to 4
pub radixes : (P : ℕ → Type 0) → P 2 → P 3 → P 4 → (p : ℕ) → 2 ≤ p → p ≤ 4 → P p
radixes P two three four zero low high = absurd (omega arith)
radixes P two three four (suc zero) low high = absurd (omega arith)
radixes P two three four (suc (suc zero)) low high = two
radixes P two three four (suc (suc (suc zero))) low high = three
radixes P two three four (suc (suc (suc (suc zero)))) low high = four
radixes P two three four (suc (suc (suc (suc (suc p))))) low high = absurd (omega arith)

-- labellings that pass at each radix from 2 to 4
pub each_lawful : (f : ℕ → Meaning) → T (lawful (f 2)) → T (lawful (f 3)) → T (lawful (f 4)) → (p : ℕ) → 2 ≤ p → p ≤ 4 → Laws (f p)
each_lawful f two three four p low high = lawful_laws (f p) (radixes (λ p. T (lawful (f p))) two three four p low high)

-- labellings that pass at radix 2 and 4: a small radix that 2 divides is one of these
pub even_lawful : (f : ℕ → Meaning) → T (lawful (f 2)) → T (lawful (f 4)) → (p : ℕ) → 2 ≤ p → p ≤ 4 → p % 2 ≡ 0 → Laws (f p)
even_lawful f two four p low high even =
    radixes (λ p. p % 2 ≡ 0 → Laws (f p)) (λ e. lawful_laws (f 2) two) (λ e. absurd (omega arith)) (λ e. lawful_laws (f 4) four) p low high even
