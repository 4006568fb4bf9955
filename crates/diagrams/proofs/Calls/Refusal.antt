-- A call is refused with the smallest number that applies. Assumes nothing.
use Rattle.std.proofs.Common.{◌≡◌, ℕ, zero, suc, ◌+◌, ◌-◌, ◌<◌, ◌≤◌, Bool, true, false, cond, not, ◌&&◌, ◌||◌, T, eqb, ltb, leb, ◌⊎◌, List, [], ◌∷◌, sym, refl, ap, ◌∙◌, inl, inr, ⊎_elim, arith, ltb→lt}
use Rattle.std.proofs.lemmas.Bool.{le-ltb, ltb-true, ltb-false, leb-true, leb-false}
use Rattle.mvl.specs.declared.refusal.Refusal.{Refusal}
use Rattle.mvl.specs.declared.refusal.Refusal.TheVariants.{NoEdge, NoVariable, NoValue, NoLabel, WrongRadix, TooWide, NoPlace, NoRoom}
use Rattle.mvl.specs.Numbers.{number}
use Rattle.mvl.specs.Labels.{Meaning, Laws}
use Rattle.diagrams.specs.Diagram.{population}
use Rattle.diagrams.specs.Build.{lacking}
use Rattle.diagrams.specs.Calls.{Table, Sound, Query, constant, variable, literal, turn, apply, restrict, Call, asks, exchange, asked}
use Rattle.diagrams.specs.Refusals.{is_edge, unless, fits, adding, refusal}
use Rattle.diagrams.specs.Rules.{rules, smaller, smallest}
use Rattle.mvl.specs.Tests.{and_left, and_right}
use Rattle.diagrams.proofs.Calls.Granted.{edge_is}
use Rattle.diagrams.proofs.Calls.Queries.{query_gains}
use Rattle.diagrams.proofs.Calls.Room.{constant_few, turn_few}

-- the first number that applies
abbrev first : List (Refusal × Bool) → ℕ
first [] = 0
first ((k, applies) ∷ rest) = cond applies (number k) (first rest)

-- the numbers of a list rise, from above j on
abbrev rising : ℕ → List (Refusal × Bool) → Bool
rising j [] = true
rising j ((k, applies) ∷ rest) = ltb j (number k) && rising (number k) rest

-- so the first that applies is the smallest
smaller_first : (j k : ℕ) → (k ≡ 0) ⊎ (j < k) → smaller j k ≡ j
smaller_first j zero h = refl
smaller_first j (suc k) h = omega arith

first_smallest : (j : ℕ) (xs : List (Refusal × Bool)) → T (rising j xs) → (smallest xs ≡ first xs) × ((smallest xs ≡ 0) ⊎ (j < smallest xs))
first_smallest j [] up = (refl, inl refl)
first_smallest j ((k, applies) ∷ rest) up =
    let low = ltb→lt j (number k) (and_left (ltb j (number k)) (rising (number k) rest) up) in
    go applies low (first_smallest (number k) rest (and_right (ltb j (number k)) (rising (number k) rest) up))
  where
    go : (b : Bool) → j < number k → (smallest rest ≡ first rest) × ((smallest rest ≡ 0) ⊎ (number k < smallest rest))
        → (smallest ((k, b) ∷ rest) ≡ first ((k, b) ∷ rest)) × ((smallest ((k, b) ∷ rest) ≡ 0) ⊎ (j < smallest ((k, b) ∷ rest)))
    go true low (same, above) = let e = smaller_first (number k) (smallest rest) above in (e, inr (omega arith))
    go false low (same, above) = (same, ⊎_elim inl (λ h. inr (omega arith)) above)

-- a test that is passed, and one that is failed
unless_one : (b : Bool) (k : Refusal) (rest rest' : ℕ) → (T b → rest ≡ rest') → unless b k rest ≡ cond (not b || false) (number k) rest'
unless_one true k rest rest' e = e tt
unless_one false k rest rest' e = refl

unless_two : (a b : Bool) (k : Refusal) (rest rest' : ℕ) → rest ≡ rest' → unless (a && b) k rest ≡ cond (not a || (not b || false)) (number k) rest'
unless_two true true k rest rest' e = e
unless_two true false k rest rest' e = refl
unless_two false b k rest rest' e = refl

unless_same : (a b : Bool) (k : Refusal) (rest rest' : ℕ) → ((a ≡ true) → (b ≡ true) → ⊥) → ((a ≡ false) → (b ≡ false) → ⊥) → rest ≡ rest' → unless a k rest ≡ cond b (number k) rest'
unless_same true true k rest rest' f g e = absurd (f refl refl)
unless_same true false k rest rest' f g e = e
unless_same false true k rest rest' f g e = refl
unless_same false false k rest rest' f g e = absurd (g refl refl)

or_none : (b : Bool) (x y : ℕ) → cond b x y ≡ cond (b || false) x y
or_none true x y = refl
or_none false x y = refl

-- there is room where the nodes to be added do not outnumber the free ones
room_same : (t : Table) (k : ℕ) → population t.nodes ≤ t.capacity → unless (fits t k) NoRoom 0 ≡ cond (ltb (t.capacity - population t.nodes) k) (number NoRoom) 0
room_same t k room =
    unless_same (fits t k) (ltb (t.capacity - population t.nodes) k) NoRoom 0 0
    (λ a b. omega (arith, leb-true (population t.nodes + k) t.capacity a, ltb-true (t.capacity - population t.nodes) k b))
    (λ a b. omega (arith, leb-false (population t.nodes + k) t.capacity a, ltb-false (t.capacity - population t.nodes) k b))
    refl

size_same : (a b : ℕ) (k : Refusal) (rest rest' : ℕ) → rest ≡ rest' → unless (leb a b) k rest ≡ cond (ltb b a || false) (number k) rest'
size_same a b k rest rest' e =
    unless_same (leb a b) (ltb b a) k rest rest' (λ p q. omega (arith, leb-true a b p, ltb-true b a q)) (λ p q. omega (arith, leb-false a b p, ltb-false b a q)) e
    ∙ or_none (ltb b a) (number k) rest'

module _ {m : Meaning} (l : Laws m) {t : Table} (sound : Sound m t) where
  none_to_add : (q : Query) → lacking m t.shape t.nodes (asked m t q) ≡ 0
      → ◌≡◌ {A = ℕ} 0 (cond (ltb (t.capacity - population t.nodes) (adding m t (asks q))) (number NoRoom) 0)
  none_to_add q e = ap (λ b. cond b (number NoRoom) 0) (sym (le-ltb (t.capacity - population t.nodes) (adding m t (asks q)) (omega arith)))

  -- a call is refused with the first number whose rule applies
  refusal_first : (c : Call) → refusal m t c ≡ first (rules m t c)
  refusal_first (asks (constant v)) =
      unless_one (ltb v m.radix) NoValue 0 _ (λ h.
      let g = query_gains l sound (constant v) tt (ltb→lt v m.radix h) in
      let few = constant_few l sound v (ltb→lt v m.radix h) g in
      none_to_add (constant v) (omega arith))
  refusal_first (asks (variable x)) =
      unless_one (ltb x t.shape.count) NoVariable _ _ (λ _. size_same (t.shape.size x) m.radix TooWide _ _ (room_same t (adding m t (asks (variable x))) sound.fits))
  refusal_first (asks (literal x v)) =
      unless_one (ltb x t.shape.count) NoVariable _ _ (λ _. unless_one (ltb v (t.shape.size x)) NoValue _ _ (λ _. room_same t (adding m t (asks (literal x v))) sound.fits))
  refusal_first (asks (turn e k)) =
      unless_one (is_edge m t.nodes e) NoEdge _ _ (λ he. unless_one (ltb k m.labels) NoLabel 0 _ (λ hk.
      let g = query_gains l sound (turn e k) tt (edge_is m t.nodes e he, ltb→lt k m.labels hk) in
      let few = turn_few l sound k (edge_is m t.nodes e he) (ltb→lt k m.labels hk) g in
      none_to_add (turn e k) (omega arith)))
  refusal_first (asks (apply r op e f)) =
      unless_two (is_edge m t.nodes e) (is_edge m t.nodes f) NoEdge _ _ (unless_one (eqb r m.radix) WrongRadix _ _
      (λ _. room_same t (adding m t (asks (apply r op e f))) sound.fits))
  refusal_first (asks (restrict e x v)) =
      unless_one (is_edge m t.nodes e) NoEdge _ _ (λ _. unless_one (ltb x t.shape.count) NoVariable _ _
      (λ _. unless_one (ltb v (t.shape.size x)) NoValue _ _ (λ _. room_same t (adding m t (asks (restrict e x v))) sound.fits)))
  refusal_first (exchange p) =
      unless_one (ltb (suc p) t.shape.count) NoPlace _ _ (λ _. room_same t (adding m t (exchange p)) sound.fits)

  -- and that number is the smallest, since the numbers rise in the list
  pub refusal_smallest : (c : Call) → refusal m t c ≡ smallest (rules m t c)
  refusal_smallest c = refusal_first c ∙ sym (first_smallest 0 (rules m t c) tt).0
