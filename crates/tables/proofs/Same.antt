-- Records that are the same. Assumes nothing.
use Rattle.std.proofs.Common.{◌≡◌, ℕ, zero, suc, ◌-◌, ◌/◌, ◌%◌, ◌<◌, ◌≤◌, ◌⊎◌, ◌≢◌, Bool, T, true, false, eqb, ◌&&◌, List, [], ◌∷◌, length, take, sym, refl, ap, ◌∙◌, inl, inr, arith, eqb→eq, length-take-le, get_or-take}
use Rattle.std.specs.Bool.{MatchBool}
use Rattle.std.specs.List.{AllWithin, HoldsAt}
use lib.Pointwise.{pointwise}
use Rattle.std.proofs.lemmas.Bool.{cases_lt}
use Rattle.mvl.specs.Tests.{passed, and_left, and_right, and_both, equal_passes}
use Rattle.diagrams.specs.Diagram.{terminal, node, Edge as Arrow}
use Rattle.tables.specs.Edges.{goal, arrow, unused, word_at}
use Rattle.tables.specs.Records.{hash_of, SameKey}
use Rattle.tables.specs.Finds.{Alikes}
use Rattle.tables.specs.declared.parts.edge.Edge.{Edge}
use Rattle.tables.specs.declared.parts.key.Key.{Key}
use Rattle.tables.proofs.Refused.{failed}
use Rattle.tables.proofs.Goals.{goal_terminal, goal_node}

-- a target has one number
pub goal_apart : (t u : ℕ) → goal t ≡ goal u → t ≡ u
goal_apart t u e = go (cases_lt t 4) (cases_lt u 4)
  where
    go : (t < 4) ⊎ (4 ≤ t) → (u < 4) ⊎ (4 ≤ u) → t ≡ u
    go (inl h) (inl k) = let p : terminal t ≡ terminal u = sym (goal_terminal t h) ∙ e ∙ goal_terminal u k in cc
    go (inl h) (inr k) = let p : terminal t ≡ node (u - 4) = sym (goal_terminal t h) ∙ e ∙ goal_node u k in let z : ◌≡◌ {A = ℕ} 0 1 = cc in absurd (omega arith)
    go (inr h) (inl k) = let p : node (t - 4) ≡ terminal u = sym (goal_node t h) ∙ e ∙ goal_terminal u k in let z : ◌≡◌ {A = ℕ} 0 1 = cc in absurd (omega arith)
    go (inr h) (inr k) = let p : node (t - 4) ≡ node (u - 4) = sym (goal_node t h) ∙ e ∙ goal_node u k in let q : t - 4 ≡ u - 4 = cc in omega arith

-- an edge has one word
pub arrow_apart : (e f : Edge) → arrow e ≡ arrow f → e.word ≡ f.word
arrow_apart e f p =
    let l : e.word / 16384 ≡ f.word / 16384 = ap (λ (a : Arrow). a.label) p in
    let t = goal_apart (e.word % 16384) (f.word % 16384) (ap (λ (a : Arrow). a.target) p) in
    omega arith

pub arrow_same : (e f : Edge) → e.word ≡ f.word → arrow e ≡ arrow f
arrow_same e f p = ap (λ (w : ℕ). record { label = w / 16384; target = goal (w % 16384) }) p

-- keys that are the same have one chain
pub same_hash : {k l : Key} → SameKey k l → hash_of k ≡ hash_of l
same_hash s =
    let v = s.variable in
    let a = s.edges 0 (omega arith) in
    let b = s.edges 1 (omega arith) in
    let c = s.edges 2 (omega arith) in
    let d = s.edges 3 (omega arith) in
    cc

-- where the code's test says no, they are not the same
same_words : (es fs : List Edge) → length es ≡ length fs → ((i : ℕ) → i < length es → word_at es i ≡ word_at fs i) → T (pointwise (λ (e f : Edge). eqb e.word f.word) es fs)
same_words [] [] long all = tt
same_words [] (f ∷ fs) long all = absurd (omega arith)
same_words (e ∷ es) [] long all = absurd (omega arith)
same_words (e ∷ es) (f ∷ fs) long all =
    and_both (eqb e.word f.word) _ (equal_passes (all 0 (omega arith))) (same_words es fs (omega arith) (λ i h. all (suc i) (omega arith)))

pub other_key : {k l : Key} → length k.edges ≡ 4 → length l.edges ≡ 4
    → false ≡ (eqb k.variable l.variable && pointwise (λ (e f : Edge). eqb e.word f.word) k.edges l.edges) → SameKey k l → ⊥
other_key {k} {l} four four' other s =
    failed other (and_both (eqb k.variable l.variable) _ (equal_passes s.variable) (same_words k.edges l.edges (omega arith) (λ i h. s.edges i (omega arith))))

-- where it says yes, they are
words_of : (es fs : List Edge) → T (pointwise (λ (e f : Edge). eqb e.word f.word) es fs) → (i : ℕ) → word_at es i ≡ word_at fs i
words_of [] [] t i = refl
words_of [] (f ∷ fs) t i = absurd t
words_of (e ∷ es) [] t i = absurd t
words_of (e ∷ es) (f ∷ fs) t zero = eqb→eq e.word f.word (and_left (eqb e.word f.word) _ t)
words_of (e ∷ es) (f ∷ fs) t (suc i) = words_of es fs (and_right (eqb e.word f.word) _ t) i

pub same_key : {k l : Key} → true ≡ (eqb k.variable l.variable && pointwise (λ (e f : Edge). eqb e.word f.word) k.edges l.edges) → SameKey k l
same_key {k} {l} same = record {
  variable = eqb→eq k.variable l.variable (and_left (eqb k.variable l.variable) _ (passed (sym same)));
  edges = λ i h. words_of k.edges l.edges (and_right (eqb k.variable l.variable) _ (passed (sym same))) i;
}

-- what a test of the first edges, one after the other, says of them
pub alikes : (es : List Edge) (size : ℕ) (r : Bool) → size ≤ length es
    → MatchBool r (AllWithin (λ (e : Edge). e.word ≡ word_at es 0) (take size es) 0 (length (take size es))) ((k : ℕ) × (k < length (take size es)) × HoldsAt (λ (e : Edge). e.word ≢ word_at es 0) (take size es) k)
    → Alikes es size r
alikes es size true fit all = λ i h.
    ap (λ (e : Edge). e.word) (sym (get_or-take size es i unused h)) ∙ all i unused (omega arith) (omega (arith, eqb→eq, length-take-le size es fit))
alikes es size false fit (k, h, other) = λ all.
    let low : k < size = omega (arith, eqb→eq, length-take-le size es fit) in
    other unused (ap (λ (e : Edge). e.word) (get_or-take size es k unused low) ∙ all k low)
