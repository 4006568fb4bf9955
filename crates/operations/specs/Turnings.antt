-- An operation that is turned stays closed, and answers by the labels that were set. Assumes nothing.
use Rattle.std.specs.Prelude.{◌≡◌, ℕ, ◌<◌, true, T, ◌&&◌, Ok, Err, ◌==◌, refl}
use Rattle.std.proofs.Common.{arith}
use Rattle.std.proofs.lemmas.Bool.Decides.{nat_tests}
use Rattle.mvl.specs.Labels.{Meaning, Laws}
use Rattle.mvl.specs.Operations.{Binary, Closed, turns, turned}
use Rattle.mvl.specs.Answers.{Carries, Asks}
use Rattle.mvl.specs.declared.refusal.Refusal.{Refusal}
use Rattle.operations.specs.Turning.{Carried, Labelled}

module _ (o : Binary) (m : Meaning) (i j k : ℕ) where
  -- what turns has three labels of m, and one radix
  pub turns_fit : T (turns o m i j k) → Labelled m i j k × (o.radix ≡ m.radix)
  turns_fit t = grind (arith, nat_tests)

  -- where they fit and not all are 0, it turns
  pub turns_unless : Labelled m i j k → o.radix ≡ m.radix → (T (i == 0 && (j == 0 && k == 0)) → ⊥) → T (turns o m i j k)
  turns_unless fit same some = grind (arith, nat_tests)

module _ (o : Binary) (m : Meaning) (i j k : ℕ) (closed : Closed o) (laws : Laws m) where
  -- a carried answer is below the radix
  pub carried_within : Labelled m i j k → o.radix ≡ m.radix → (a b : ℕ) → a < o.radix → b < o.radix → m.carry k (o.answer (m.carry i a) (m.carry j b)) < o.radix
  carried_within fit same a b ha hb = grind (arith, closed.within, laws.within)

  -- what is turned stays closed
  pub turned_closed : Closed (turned o m i j k)
  turned_closed = record {
    radix_low = closed.radix_low;
    radix_high = closed.radix_high;
    within = λ a b ha hb. grind (arith, nat_tests, closed.within, laws.within);
  }

  -- label 0 leaves a value as it is
  pub still : (n v : ℕ) → T (n == 0) → v < m.radix → m.carry n v ≡ v
  still n v t h = grind (arith, nat_tests, laws.still)

  -- where all are 0, to carry changes nothing
  pub all_still : T (i == 0 && (j == 0 && k == 0)) → o.radix ≡ m.radix → (a b : ℕ) → a < o.radix → b < o.radix → m.carry k (o.answer (m.carry i a) (m.carry j b)) ≡ o.answer a b
  all_still t same a b ha hb = grind (arith, nat_tests, closed.within, laws.still)

  -- where the labels fit, the answer is carried
  pub turned_carried : Labelled m i j k → o.radix ≡ m.radix → Carried o m i j k (turned o m i j k)
  turned_carried fit same = (refl, λ a b ha hb. grind (arith, nat_tests, closed.within, laws.still))

  -- carried operands are not refused
  pub carried_asks : turns o m i j k ≡ true → (l r a b : ℕ) (e : Refusal) → Carries m i l (Ok a) → Carries m j r (Ok b) → Asks o a b (Err e) → ⊥
  carried_asks t l r a b e left right refused = grind (arith, nat_tests, laws.within)
