-- The products, inverses and home labels of the labellings that are supplied: each formula is tested at every label and value. Assumes nothing.
use Rattle.std.proofs.Common.{◌≡◌, ℕ, ◌+◌, ◌-◌, ◌/◌, ◌%◌, ◌<◌, Bool, cond, ◌&&◌, T, nat_eq, nat_lt, eqb→eq, arith}
use Rattle.mvl.specs.Search.{all_below}
use Rattle.mvl.specs.Tests.{and_left, and_right}
use Rattle.mvl.specs.Below.{all_below_at}
use Rattle.mvl.specs.Labels.{Meaning, product, inverse, home_label}
use Rattle.mvl.specs.Labellings.{plain, complement, cyclic}
use Rattle.mvl.specs.Lawful.{radixes}
use Rattle.mvl.specs.declared.radix.Radix.{Radix}

-- formulas for the products, inverses and home labels of a labelling
pub record Formulas (m : Meaning) (times : ℕ → ℕ → ℕ) (back lift : ℕ → ℕ) : Type 0 where
  pub product_is : (a b : ℕ) → a < m.labels → b < m.labels → times a b ≡ product m a b
  pub inverse_is : (a : ℕ) → a < m.labels → back a ≡ inverse m a
  pub home_label_is : (v : ℕ) → v < m.radix → lift v ≡ home_label m v

-- formulas for each radix p
module _ (f : ℕ → Meaning) (times : ℕ → ℕ → ℕ → ℕ) (back lift : ℕ → ℕ → ℕ) where
  abbrev multiplies : ℕ → ℕ → Bool
  multiplies p a = all_below (f p).labels (λ b. nat_eq (times p a b) (product (f p) a b))

  abbrev inverts : ℕ → ℕ → Bool
  inverts p a = nat_eq (back p a) (inverse (f p) a)

  abbrev lifts : ℕ → ℕ → Bool
  lifts p v = nat_eq (lift p v) (home_label (f p) v)

  abbrev fit : ℕ → Bool
  fit p = all_below (f p).labels (λ a. multiplies p a && inverts p a) && all_below (f p).radix (lifts p)

  formulas_at : (p : ℕ) → T (fit p) → Formulas (f p) (times p) (back p) (lift p)
  formulas_at p t =
      let acts = all_below_at (f p).labels (λ a. multiplies p a && inverts p a) (and_left _ (all_below (f p).radix (lifts p)) t) in
      record {
        product_is = λ a b ha hb. eqb→eq _ _ (all_below_at (f p).labels _ (and_left (multiplies p a) (inverts p a) (acts a ha)) b hb);
        inverse_is = λ a ha. eqb→eq _ _ (and_right (multiplies p a) (inverts p a) (acts a ha));
        home_label_is = λ v hv. eqb→eq _ _ (all_below_at (f p).radix (lifts p) (and_right _ (all_below (f p).radix (lifts p)) t) v hv);
      }

  -- they are right where they pass at each radix
  formulas : T (fit 2) → T (fit 3) → T (fit 4) → (r : Radix) → Formulas (f r.value) (times r.value) (back r.value) (lift r.value)
  formulas two three four r = formulas_at r.value (radixes (λ p. T (fit p)) two three four r.value r.low r.high)

  -- or at each even one
  even_formulas : T (fit 2) → T (fit 4) → (r : Radix) → r.value % 2 ≡ 0 → Formulas (f r.value) (times r.value) (back r.value) (lift r.value)
  even_formulas two four r even =
      formulas_at r.value (radixes (λ p. p % 2 ≡ 0 → T (fit p)) (λ e. two) (λ e. absurd (omega arith)) (λ e. four) r.value r.low r.high even)

pub plain_formulas : (r : Radix) → Formulas (plain r.value) (λ a b. 0) (λ a. 0) (λ v. 0)
plain_formulas = formulas plain (λ p a b. 0) (λ p a. 0) (λ p v. 0) tt tt tt

pub cyclic_formulas : (r : Radix) → Formulas (cyclic r.value) (λ a b. (a + b) % r.value) (λ a. (r.value - a) % r.value) (λ v. v)
cyclic_formulas = formulas cyclic (λ p a b. (a + b) % p) (λ p a. (p - a) % p) (λ p v. v) tt tt tt

pub complement_formulas : (r : Radix) → r.value % 2 ≡ 0 → Formulas (complement r.value) (λ a b. (a + b) % 2) (λ a. a) (λ v. cond (nat_lt v (r.value / 2)) 0 1)
complement_formulas = even_formulas complement (λ p a b. (a + b) % 2) (λ p a. a) (λ p v. cond (nat_lt v (p / 2)) 0 1) tt tt
