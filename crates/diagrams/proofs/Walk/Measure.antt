-- How much is left to do with the stack: each turn makes it less. Assumes nothing.
use Rattle.std.proofs.Common.{◌≡◌, ℕ, zero, suc, ◌+◌, ◌-◌, ◌*◌, ◌<◌, refl, ap, arith}
use Rattle.diagrams.specs.Diagram.{Edge}
use Rattle.diagrams.proofs.Walk.Stack.{Piece, SameBelow, Fills, Pushes}

-- b taken k times
abbrev times : ℕ → ℕ → ℕ
times zero b = 0
times (suc k) b = b + times k b

-- an edge of a piece weighs six times an edge of the piece above it
abbrev weight : ℕ → ℕ
weight zero = 1
weight (suc h) = 6 * weight h

-- the edges that piece k lacks after n of them: four at most, and there are no more than twelve pieces
abbrev lacks : ℕ → ℕ → ℕ
lacks k n = times (4 - n) (weight (12 - k))

module _ {A : Type 0} where
  -- what the pieces below k lack once they have the edges that they await
  abbrev under : (ℕ → Piece A) → ℕ → ℕ
  under ps zero = 0
  under ps (suc k) = under ps k + lacks k ((ps k).done + 1) + 1

  -- that, and what piece k lacks
  abbrev pub left : (ℕ → Piece A) → ℕ → ℕ
  left ps k = under ps k + lacks k (ps k).done + 1

  under_same : {ps qs : ℕ → Piece A} (k : ℕ) → SameBelow k ps qs → under qs k ≡ under ps k
  under_same zero same = refl
  under_same (suc k) same =
      let e = ap (λ (p : Piece A). lacks k (p.done + 1)) (same k (omega arith)) in
      omega (arith, under_same k (λ j h. same j (omega arith)))

weight_some : (h : ℕ) → 0 < weight h
weight_some zero = omega arith
weight_some (suc h) = omega (arith, weight_some h)

-- one edge fewer
lacks_less : (k n : ℕ) → n < 4 → lacks k n ≡ weight (12 - k) + lacks k (n + 1)
lacks_less k n h = let e : 4 - n ≡ suc (4 - (n + 1)) = omega arith in ap (λ j. times j (weight (12 - k))) e

module _ {A : Type 0} {ps qs : ℕ → Piece A} where
  -- an edge filled in
  pub left_fill : {k : ℕ} {r : Edge} → Fills ps qs k r → (ps k).done < 4 → left qs k < left ps k
  left_fill {k} fills h =
      let a = under_same k fills.same in
      let b = lacks_less k (ps k).done h in
      let c = ap (lacks k) fills.extends.done in
      omega (arith, weight_some (12 - k))

  -- a piece put on top
  pub left_push : {k : ℕ} {t : A} {y : ℕ} → Pushes ps qs k t y → (ps k).done < 4 → k < 12 → left qs (suc k) < left ps k
  left_push {k} pushes h low =
      let a = under_same (suc k) pushes.same in
      let b = lacks_less k (ps k).done h in
      let c = ap (lacks (suc k)) pushes.opens.done in
      let u : 12 - k ≡ suc (12 - suc k) = omega arith in
      let d : weight (12 - k) ≡ 6 * weight (12 - suc k) = ap weight u in
      let four : times 4 (weight (12 - suc k)) ≡ 4 * weight (12 - suc k) = omega arith in
      omega (arith, weight_some (12 - suc k))

  -- a piece taken off, and its edge filled in below
  pub left_pop : {k : ℕ} {r : Edge} → Fills ps qs k r → left qs k < left ps (suc k)
  left_pop {k} fills =
      let a = under_same k fills.same in
      let c = ap (lacks k) fills.extends.done in
      omega arith
