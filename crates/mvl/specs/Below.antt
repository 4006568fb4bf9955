-- What a search over the numbers below a bound finds. Assumes nothing.
use Rattle.std.specs.Prelude.{◌≡◌, ℕ, zero, suc, ◌+◌, ◌<◌, ◌≤◌, Bool, true, false, cond, ◌&&◌, ◌||◌, T, refl}
use Rattle.std.proofs.Common.{ap, ap₂, subst, ◌∙◌, ⊎_elim, below_more, arith}
use Rattle.std.proofs.lemmas.Bool.{cases_eq, cases_lt}
use Rattle.mvl.specs.Search.{any_below, all_below, first_from, first_below}
use Rattle.mvl.specs.Tests.{passed, and_left, and_right, and_both, or_left, or_right, or_either}

-- some number passes
pub any_below_from : (n : ℕ) (p : ℕ → Bool) (i : ℕ) → i < n → T (p i) → T (any_below n p)
any_below_from zero p i h = absurd (omega arith)
any_below_from (suc n) p i h =
    below_more (λ k. T (p k) → T (p n || any_below n p)) n
    (λ k low t. or_right (p n) (any_below n p) (any_below_from n p k low t))
    (λ t. or_left (p n) (any_below n p) t)
    i (omega arith)

pub any_below_finds : (n : ℕ) (p : ℕ → Bool) → T (any_below n p) → (i : ℕ) × (i < n) × T (p i)
any_below_finds zero p t = absurd t
any_below_finds (suc n) p t =
    ⊎_elim
    (λ here. (n, omega arith, here))
    (λ below. let found = any_below_finds n p below in (found.0, omega (arith, found.1), found.2))
    (or_either (p n) (any_below n p) t)

-- every number passes
pub all_below_at : (n : ℕ) (p : ℕ → Bool) → T (all_below n p) → (i : ℕ) → i < n → T (p i)
all_below_at zero p t i h = absurd (omega arith)
all_below_at (suc n) p t i h =
    below_more (λ k. T (p k)) n (all_below_at n p (and_right (p n) (all_below n p) t)) (and_left (p n) (all_below n p) t) i (omega arith)

pub all_below_from : (n : ℕ) (p : ℕ → Bool) → ((i : ℕ) → i < n → T (p i)) → T (all_below n p)
all_below_from zero p h = tt
all_below_from (suc n) p h = and_both (p n) (all_below n p) (h n (omega arith)) (all_below_from n p (λ i below. h i (omega arith)))

-- the first number that passes
record From (i k : ℕ) (p : ℕ → Bool) (r : ℕ) : Type 0 where
  low : i ≤ r
  high : r ≤ i + k
  passes : r < i + k → T (p r)
  fails : (j : ℕ) → i ≤ j → j < r → T (p j) → ⊥

from_is : (k i : ℕ) (p : ℕ → Bool) → From i k p (first_from k i p)
from_is zero i p = record { low = omega arith; high = omega arith; passes = λ h. absurd (omega arith); fails = λ j h l. absurd (omega arith) }
from_is (suc k) i p = go (from_is k (suc i) p) (p i) refl
  where
    go : From (suc i) k p (first_from k (suc i) p) → (b : Bool) → p i ≡ b → From i (suc k) p (cond b i (first_from k (suc i) p))
    go f true e = record { low = omega arith; high = omega arith; passes = λ h. passed e; fails = λ j h l. absurd (omega arith) }
    go f false e = record {
      low = omega arith;
      high = omega arith;
      passes = λ h. f.passes (omega arith);
      fails = λ j h l t. ⊎_elim (λ (q : j ≡ i). subst T (ap p q ∙ e) t) (λ q. f.fails j (omega arith) l t) (cases_eq j i);
    }

-- r passes and none below it does, or r is n and none below n passes
pub record First (n : ℕ) (p : ℕ → Bool) (r : ℕ) : Type 0 where
  pub high : r ≤ n
  pub passes : r < n → T (p r)
  pub fails : (j : ℕ) → j < r → T (p j) → ⊥

-- that is what the search finds
pub first_is : (n : ℕ) (p : ℕ → Bool) → First n p (first_below n p)
first_is n p =
    let f = from_is n 0 p in
    record { high = omega arith; passes = λ h. f.passes (omega arith); fails = λ j h. f.fails j (omega arith) h }

-- where some number passes, the first one does and is the least
pub first_below_least : (n : ℕ) (p : ℕ → Bool) (j : ℕ) → j < n → T (p j) → first_below n p ≤ j
first_below_least n p j h t = ⊎_elim (λ low. absurd ((first_is n p).fails j low t)) (λ high. high) (cases_lt j (first_below n p))

pub first_below_passes : (n : ℕ) (p : ℕ → Bool) (j : ℕ) → j < n → T (p j) → T (p (first_below n p))
first_below_passes n p j h t = (first_is n p).passes (omega (arith, first_below_least n p j h t))

-- two tests that pass the same numbers have the same first
pub first_below_same : (n : ℕ) (p q : ℕ → Bool) (j : ℕ) → j < n → T (p j) → ((i : ℕ) → i < n → T (p i) → T (q i)) → ((i : ℕ) → i < n → T (q i) → T (p i))
    → first_below n p ≡ first_below n q
first_below_same n p q j h t there back =
    let first-p : first_below n p < n = omega (arith, first_below_least n p j h t) in
    let first_q : first_below n q < n = omega (arith, first_below_least n q j h (there j h t)) in
    let q-least = first_below_least n q (first_below n p) first-p (there (first_below n p) first-p (first_below_passes n p j h t)) in
    let p-least = first_below_least n p (first_below n q) first_q (back (first_below n q) first_q (first_below_passes n q j h (there j h t))) in
    omega arith

-- tests that agree below the bound find the same
pub any_below_cong : (n : ℕ) (p q : ℕ → Bool) → ((i : ℕ) → i < n → p i ≡ q i) → any_below n p ≡ any_below n q
any_below_cong zero p q same = refl
any_below_cong (suc n) p q same = ap₂ (λ b c. b || c) (same n (omega arith)) (any_below_cong n p q (λ i h. same i (omega arith)))

pub all_below_cong : (n : ℕ) (p q : ℕ → Bool) → ((i : ℕ) → i < n → p i ≡ q i) → all_below n p ≡ all_below n q
all_below_cong zero p q same = refl
all_below_cong (suc n) p q same = ap₂ (λ b c. b && c) (same n (omega arith)) (all_below_cong n p q (λ i h. same i (omega arith)))

first_from_cong : (k i : ℕ) (p q : ℕ → Bool) → ((j : ℕ) → j < i + k → p j ≡ q j) → first_from k i p ≡ first_from k i q
first_from_cong zero i p q same = refl
first_from_cong (suc k) i p q same = ap₂ (λ b r. cond b i r) (same i (omega arith)) (first_from_cong k (suc i) p q (λ j h. same j (omega arith)))

pub first_below_cong : (n : ℕ) (p q : ℕ → Bool) → ((i : ℕ) → i < n → p i ≡ q i) → first_below n p ≡ first_below n q
first_below_cong n p q same = first_from_cong n 0 p q (λ j h. same j (omega arith))
