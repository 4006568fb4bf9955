-- What is answered when a labelling or an operation is made or asked, granted and refused. Assumes nothing.
use Rattle.std.specs.Prelude.{◌≡◌, ℕ, ◌<◌, ◌≤◌, ◌⊎◌, Some, None, Ok, Err, Option, Result}
use Rattle.mvl.specs.Labels.{Meaning, product, inverse, home, home_label}
use Rattle.mvl.specs.Operations.{Binary}
use Rattle.mvl.specs.declared.refusal.Refusal.{Refusal}
use Rattle.mvl.specs.declared.refusal.Refusal.TheVariants.{Unserved, NoValue, NoLabel}

-- a radix from 2 to 4; an even one
abbrev pub Small : ℕ → Type 0
Small p = (2 ≤ p) × (p ≤ 4)

abbrev pub Even : ℕ → Type 0
Even p = (p ≡ 2) ⊎ (p ≡ 4)

-- what is made for radix p, where it serves that, has that radix
abbrev pub MadeFor : {A : Type 0} → (A → ℕ) → (ℕ → Type 0) → ℕ → Result A Refusal → Type 0
MadeFor radix-of Serves p (Ok a) = Serves p × (radix-of a ≡ p)
MadeFor radix-of Serves p (Err e) = (Serves p → ⊥) × (e ≡ Unserved)

-- a number that is to be below n: what is answered at it, and how any other is refused
abbrev pub Within : ℕ → Refusal → ℕ → ℕ → Result ℕ Refusal → Type 0
Within n refusal x answer (Ok w) = (x < n) × (w ≡ answer)
Within n refusal x answer (Err e) = (n ≤ x) × (e ≡ refusal)

-- a labelling, asked where label k carries value v: the value is tested first
abbrev pub Carries : Meaning → ℕ → ℕ → Result ℕ Refusal → Type 0
Carries m k v (Ok w) = (v < m.radix) × (k < m.labels) × (w ≡ m.carry k v)
Carries m k v (Err e) = (m.radix ≤ v → e ≡ NoValue) × (v < m.radix → (m.labels ≤ k) × (e ≡ NoLabel))

-- asked for the product of two labels
abbrev pub Multiplies : Meaning → ℕ → ℕ → Result ℕ Refusal → Type 0
Multiplies m a b (Ok k) = (a < m.labels) × (b < m.labels) × (k ≡ product m a b)
Multiplies m a b (Err e) = (a < m.labels → m.labels ≤ b) × (e ≡ NoLabel)

-- asked for the inverse of a label
abbrev pub Inverts : Meaning → ℕ → Result ℕ Refusal → Type 0
Inverts m a r = Within m.labels NoLabel a (inverse m a) r

-- asked for the home label of a value
abbrev pub Homes : Meaning → ℕ → Result ℕ Refusal → Type 0
Homes m v r = Within m.radix NoValue v (home_label m v) r

-- asked for the home of a value
abbrev pub HomeIs : Meaning → ℕ → Result ℕ Refusal → Type 0
HomeIs m v r = Within m.radix NoValue v (home m v) r

-- an operation, asked for a pair of values
abbrev pub Asks : Binary → ℕ → ℕ → Result ℕ Refusal → Type 0
Asks o a b (Ok v) = (a < o.radix) × (b < o.radix) × (v ≡ o.answer a b)
Asks o a b (Err e) = (a < o.radix → o.radix ≤ b) × (e ≡ NoValue)

-- every right operand gives v
abbrev pub Always : Binary → ℕ → ℕ → Type 0
Always o a v = (b : ℕ) → b < o.radix → o.answer a b ≡ v

-- a shortcut, asked of left operand a: a value exactly when every right operand gives it
abbrev pub Tells : Binary → ℕ → Result (Option ℕ) Refusal → Type 0
Tells o a (Ok (Some v)) = (a < o.radix) × Always o a v
Tells o a (Ok None) = (a < o.radix) × ((v : ℕ) → Always o a v → ⊥)
Tells o a (Err e) = (o.radix ≤ a) × (e ≡ NoValue)
