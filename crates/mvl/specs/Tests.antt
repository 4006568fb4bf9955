-- Boolean tests: a test that passed, its parts, and what `cond` gives. Assumes nothing.
use Rattle.std.specs.Prelude.{◌≡◌, ℕ, Bool, true, false, cond, ◌&&◌, ◌||◌, T, ◌⊎◌, ◌==◌, ◌≢◌, refl}
use Rattle.std.proofs.Common.{sym, subst, inl, inr, eqb→eq}
use Rattle.std.proofs.Math.Dec.{eqb_refl}
use Rattle.std.proofs.Math.Facts.{and_yes}
-- what std has: equal numbers pass the test for it, both of two tests pass, and one of two
pub use Rattle.std.proofs.Math.Facts.{yes_eqb as equal_passes, yes_and as and_both, or_yes as or_either}

-- a test that is known to be true passes, and one that passes is true
pub passed : {b : Bool} → b ≡ true → T b
passed e = subst T (sym e) tt

pub is_true : (b : Bool) → T b → b ≡ true
is_true true t = refl
is_true false t = absurd t

-- a test passes or not
pub cases_T : (b : Bool) → T b ⊎ (T b → ⊥)
cases_T true = inl tt
cases_T false = inr (λ t. t)

-- each of two tests that both pass
pub and_left : (b c : Bool) → T (b && c) → T b
and_left b c t = (and_yes b c t).0

pub and_right : (b c : Bool) → T (b && c) → T c
and_right b c t = (and_yes b c t).1

-- one of two tests
pub or_left : (b c : Bool) → T b → T (b || c)
or_left true c t = tt
or_left false c t = absurd t

pub or_right : (b c : Bool) → T c → T (b || c)
or_right true c t = tt
or_right false c t = t

-- what holds of both values of a `cond` holds of it
pub cond_cases : {A : Type 0} (b : Bool) (x y : A) (P : A → Type 0) → (T b → P x) → ((T b → ⊥) → P y) → P (cond b x y)
cond_cases true x y P f g = f tt
cond_cases false x y P f g = g (λ t. t)

pub cond_yes : {A : Type 0} (b : Bool) (x y : A) → T b → cond b x y ≡ x
cond_yes b x y t = cond_cases b x y (λ z. z ≡ x) (λ _. refl) (λ f. absurd (f t))

pub cond_no : {A : Type 0} (b : Bool) (x y : A) → (T b → ⊥) → cond b x y ≡ y
cond_no b x y f = cond_cases b x y (λ z. z ≡ y) (λ t. absurd (f t)) (λ _. refl)

-- only where the test passes the first value matters
pub cond_alike : {A : Type 0} (b : Bool) (x y z : A) → (T b → x ≡ y) → cond b x z ≡ cond b y z
cond_alike true x y z same = same tt
cond_alike false x y z same = refl

-- where two numbers are compared: they are the same, equal, or not
pub cond_same : {A : Type 0} (n : ℕ) (x y : A) → cond (n == n) x y ≡ x
cond_same n x y = cond_yes (n == n) x y (eqb_refl n)

pub cond_equal : {A : Type 0} (m n : ℕ) (x y : A) → m ≡ n → cond (m == n) x y ≡ x
cond_equal m n x y e = cond_yes (m == n) x y (equal_passes e)

pub cond_other : {A : Type 0} (m n : ℕ) (x y : A) → (m ≢ n) → cond (m == n) x y ≡ y
cond_other m n x y f = cond_no (m == n) x y (λ t. f (eqb→eq m n t))
