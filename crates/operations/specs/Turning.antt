-- What an operation answers that is seen through a labelling, and what setting its labels does. Assumes nothing.
use Rattle.std.specs.Prelude.{◌≡◌, ℕ, ◌<◌, Ok, Err, Result, ◌≢◌}
use Rattle.mvl.specs.Labels.{Meaning}
use Rattle.mvl.specs.Operations.{Binary, turned}
use Rattle.mvl.specs.declared.refusal.Refusal.{Refusal}
use Rattle.mvl.specs.declared.refusal.Refusal.TheVariants.{NoLabel, WrongRadix}
use Rattle.operations.specs.declared.turned.Turned.{Turned}

-- t answers as o does
abbrev pub Alone : Binary → Binary → Type 0
Alone o t = (t.radix ≡ o.radix) × ((a b : ℕ) → t.answer a b ≡ o.answer a b)

-- t answers what o answers to the operands carried by i and j, carried by k
abbrev pub Carried : Binary → Meaning → ℕ → ℕ → ℕ → Binary → Type 0
Carried o m i j k t =
    (t.radix ≡ o.radix)
    × ((a b : ℕ) → a < o.radix → b < o.radix → t.answer a b ≡ m.carry k (o.answer (m.carry i a) (m.carry j b)))

-- all three are labels of m
abbrev pub Labelled : Meaning → ℕ → ℕ → ℕ → Type 0
Labelled m i j k = (i < m.labels) × (j < m.labels) × (k < m.labels)

-- over what operations and labellings mean
module _ {O L : Type 0} (operation : O → Binary) (labelling_of : L → Meaning) where
  -- what an operation means that is seen through a labelling
  abbrev pub seen : Turned O L → Binary
  seen t = turned (operation t.below) (labelling_of t.labelling) t.left t.right t.answer

  -- the labels are set to i, j and k: they are tested first, then the radices; a refusal changes nothing, else answers are carried
  abbrev pub Sets : ℕ → ℕ → ℕ → Turned O L → Result (Unit {0}) Refusal → Turned O L → Type 0
  Sets i j k before (Ok done) after =
      Labelled (labelling_of before.labelling) i j k
      × ((operation before.below).radix ≡ (labelling_of before.labelling).radix)
      × (after ≡ record { below = before.below; labelling = before.labelling; left = i; right = j; answer = k })
      × Carried (operation before.below) (labelling_of before.labelling) i j k (seen after)
  Sets i j k before (Err e) after =
      (after ≡ before)
      × ((Labelled (labelling_of before.labelling) i j k → ⊥) → e ≡ NoLabel)
      × (Labelled (labelling_of before.labelling) i j k →
      ((operation before.below).radix ≢ (labelling_of before.labelling).radix) × (e ≡ WrongRadix))
