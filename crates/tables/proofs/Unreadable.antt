-- When an evaluation is refused. Assumes nothing.
use Rattle.std.proofs.Common.{◌≡◌, ℕ, ◌<◌, ◌≤◌, Bool, true, false, eqb, ltb, List, length, get_or, take, sym, ◌∙◌, subst, arith, length-take-le, get_or-take, eqb→eq, ltb→lt, lt→ltb}
use Rattle.std.specs.Bool.{MatchBool}
use Rattle.std.specs.List.{AllWithin, HoldsAt, zip}
use Rattle.std.proofs.lemmas.Slice.Zip.{length-zip, get_or-zip}
use Rattle.mvl.specs.declared.refusal.Refusal.TheVariants.{NoEdge, NoValue, WrongLength}
use Rattle.mvl.specs.Search.{all_below}
use Rattle.mvl.specs.Labels.{Meaning}
use Rattle.mvl.specs.Tests.{passed, equal_passes}
use Rattle.mvl.specs.Below.{all_below_at, all_below_from}
use Rattle.diagrams.specs.Shape.{Assignment}
use Rattle.diagrams.specs.Diagram.{Edge as Arrow}
use Rattle.diagrams.specs.Calls.{Table}
use Rattle.diagrams.specs.Refusals.{is_edge, unless}
use Rattle.tables.specs.declared.parts.card.Card.{Card}
use Rattle.tables.specs.Evaluates.{assigned, Allows, unreadable, Unread}
use Rattle.tables.proofs.Refused.{failed, unless_no, unless_yes}

module _ (m : Meaning) (t : Table) (e : Arrow) (xs : List ℕ) where
  abbrev entries : ℕ
  entries = unless (all_below t.shape.count (λ x. ltb (assigned xs x) (t.shape.size x))) NoValue 0

  abbrev lengths : ℕ
  lengths = unless (eqb (length xs) t.shape.count) WrongLength entries

  pub strange : false ≡ is_edge m t.nodes e → Unread m t e xs 3
  strange f = record { some = omega arith; refused = unless_no (is_edge m t.nodes e) NoEdge lengths (failed f) }

  module _ (of : true ≡ is_edge m t.nodes e) where
    pub wrong_length : (length xs ≡ t.shape.count → ⊥) → Unread m t e xs 7
    wrong_length f = record {
      some = omega arith;
      refused = unless_yes (is_edge m t.nodes e) NoEdge lengths (passed (sym of))
          ∙ unless_no (eqb (length xs) t.shape.count) WrongLength entries (λ t'. f (eqb→eq (length xs) t.shape.count t'));
    }

    module _ (long : length xs ≡ t.shape.count) where
      tested : unreadable m t e xs ≡ entries
      tested = unless_yes (is_edge m t.nodes e) NoEdge lengths (passed (sym of)) ∙ unless_yes (eqb (length xs) t.shape.count) WrongLength entries (equal_passes long)

      pub too_large : (x : ℕ) → x < t.shape.count → t.shape.size x ≤ assigned xs x → Unread m t e xs 5
      too_large x h large = record {
        some = omega arith;
        refused = tested ∙ unless_no (all_below t.shape.count (λ x. ltb (assigned xs x) (t.shape.size x))) NoValue 0 (λ all.
            let low = ltb→lt (assigned xs x) (t.shape.size x) (all_below_at t.shape.count (λ x. ltb (assigned xs x) (t.shape.size x)) all x h) in
            omega arith);
      }

      pub readable : Assignment t.shape (assigned xs) → unreadable m t e xs ≡ 0
      readable assigns =
          tested ∙ unless_yes (all_below t.shape.count (λ x. ltb (assigned xs x) (t.shape.size x))) NoValue 0
          (all_below_from t.shape.count (λ x. ltb (assigned xs x) (t.shape.size x)) (λ x h. lt→ltb (assigned xs x) (t.shape.size x) (assigns x h)))

-- values tested against sizes, pair by pair
pub tested_all : (c : Card) (xs : List ℕ) → length xs ≡ c.n → c.n ≤ length c.sizes → (r : Bool)
    → MatchBool r (AllWithin (λ (p : ℕ × ℕ). p.0 < p.1) (zip xs (take c.n c.sizes)) 0 (length (zip xs (take c.n c.sizes)))) ((k : ℕ) × (k < length (zip xs (take c.n c.sizes))) × HoldsAt (λ (p : ℕ × ℕ). p.1 ≤ p.0) (zip xs (take c.n c.sizes)) k)
    → Allows c xs r
tested_all c xs long fit true all = λ k h.
    let low : k < c.n = omega arith in
    let few = length-take-le c.n c.sizes fit in
    let is = get_or-zip xs (take c.n c.sizes) k (0, 0) h (omega arith) in
    subst (λ (v : ℕ). get_or xs k 0 < v) (get_or-take c.n c.sizes k 0 low)
    (subst (λ (p : ℕ × ℕ). p.0 < p.1) is (all k (0, 0) (omega arith) (omega (arith, few, length-zip xs (take c.n c.sizes)))))
tested_all c xs long fit false (k, h, large) =
    let few = length-take-le c.n c.sizes fit in
    let low : k < length xs = omega (arith, length-zip xs (take c.n c.sizes)) in
    let is = get_or-zip xs (take c.n c.sizes) k (0, 0) low (omega arith) in
    (k, low, subst (λ (v : ℕ). v ≤ get_or xs k 0) (get_or-take c.n c.sizes k 0 (omega arith)) (subst (λ (p : ℕ × ℕ). p.1 ≤ p.0) is (large (0, 0))))
