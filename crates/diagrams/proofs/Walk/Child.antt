-- The children of a task: edges followed where a variable has a value. Assumes nothing.
use Rattle.std.proofs.Common.{◌≡◌, ℕ, ◌<◌, ◌≤◌, ◌⊎◌, sym, refl, ap, ◌∙◌, subst, ap₂, inl, inr, ⊎_elim, arith}
use Rattle.std.proofs.lemmas.Bool.{cases_eq}
use Rattle.mvl.specs.Labels.{Meaning, Laws}
use Rattle.diagrams.specs.Shape.{Shape, ShapeLaws, Assignment, updated}
use Rattle.diagrams.specs.Functions.{Agree}
use Rattle.diagrams.specs.Diagram.{Target, terminal, node, Edge, Nodes, Has, value, level, Stands, Of, Reduced}
use Rattle.diagrams.specs.Exchange.{through}
use Rattle.diagrams.specs.Walk.{Walk, applies, restricts, Fair, Task, TaskOf, meant, task_level, follow, child, Needs}
use Rattle.diagrams.proofs.Reading.Edges.{turned_of}
use Rattle.diagrams.proofs.Reading.Assignments.{updated_here, updated_there, updated_assigns}
use Rattle.diagrams.proofs.Reading.Values.{value_local}
use Rattle.diagrams.proofs.Reading.Restriction.{At, restricted_here, restricted_other, stands_at, restricted_below, value_restricted}

-- two variables set in either order
updated_both : (a : ℕ → ℕ) (x v y i : ℕ) → (y ≡ x → ⊥) → (z : ℕ) → updated (updated a x v) y i z ≡ updated (updated a y i) x v z
updated_both a x v y i apart z = go (cases_eq z y) (cases_eq z x)
  where
    go : (z ≡ y) ⊎ (z ≡ y → ⊥) → (z ≡ x) ⊎ (z ≡ x → ⊥) → updated (updated a x v) y i z ≡ updated (updated a y i) x v z
    go (inl p) (inl q) = absurd (apart (sym p ∙ q))
    go (inl p) (inr n) =
        ap (updated (updated a x v) y i) p ∙ updated_here (updated a x v) y i
        ∙ sym (updated_there (updated a y i) x v z n ∙ ap (updated a y i) p ∙ updated_here a y i)
    go (inr n) (inl q) =
        updated_there (updated a x v) y i z n ∙ ap (updated a x v) q ∙ updated_here a x v ∙ sym (ap (updated (updated a y i) x v) q ∙ updated_here (updated a y i) x v)
    go (inr n) (inr k) =
        updated_there (updated a x v) y i z n ∙ updated_there a x v z k ∙ sym (updated_there (updated a y i) x v z k ∙ updated_there a y i z n)

module _ {m : Meaning} (l : Laws m) {s : Shape} (sl : ShapeLaws s) {d : Nodes} (red : Reduced m s d) where
  -- an edge where y has value i
  module _ (y i : ℕ) (hi : i < s.size y) {e : Edge} (of : Of m d e) where
    -- it is an edge of the table
    pub follow_of : Of m d (follow m d y i e)
    follow_of = go e.target refl
      where
        go : (t : Target) → e.target ≡ t → Of m d (through m d y i e t)
        go (terminal v) is = of
        go (node q) is =
            ⊎_elim
            (λ (same : d.variable q ≡ y).
            let has : Has d q = subst (Stands m d) is of.over.stands in
            let h : i < s.size (d.variable q) = rw same hi in
            rw (restricted_here m d y i e q same)
            (turned_of l e.label of.over.label_within (record { over = red.ordered.over q i has h; home = red.homes q i has h })))
            (λ other. rw (restricted_other m d y i e q other) of)
            (cases_eq (d.variable q) y)

    -- and leads no higher
    pub follow_high : level s d e.target ≤ level s d (follow m d y i e).target
    follow_high = go e.target refl
      where
        go : (t : Target) → e.target ≡ t → level s d t ≤ level s d (through m d y i e t).target
        go (terminal v) is = rw is (omega arith)
        go (node q) is =
            ⊎_elim
            (λ (same : d.variable q ≡ y).
            let has : Has d q = subst (Stands m d) is of.over.stands in
            let below = red.ordered.below q i has (rw same hi) in
            rw (restricted_here m d y i e q same) (omega arith))
            (λ other. rw (restricted_other m d y i e q other, is) (omega arith))
            (cases_eq (d.variable q) y)

    -- where y stands at or above its level, it leads below y and has the values at y = i
    module _ (hy : y < s.count) (low : s.place y ≤ level s d e.target) where
      at : At s d y e.target
      at = stands_at l sl red.ordered y hy e.target of.over.stands low

      pub follow_low : s.place y < level s d (follow m d y i e).target
      follow_low = restricted_below l sl red.ordered y hy i hi e.label e.target at of.over

      pub follow_value : (a : ℕ → ℕ) → Assignment s a → value m s d (follow m d y i e) a ≡ value m s d e (updated a y i)
      follow_value a assigns = value_restricted l sl red.ordered y hy i hi e.label e.target a at of.over assigns

  module _ (y i : ℕ) (hi : i < s.size y) where
    -- a child is over edges of the table
    pub child_of : {t : Task} → TaskOf m d t → TaskOf m d (child m d y i t)
    child_of of = record { left = follow_of y i hi of.left; right = follow_of y i hi of.right }

    -- it stands below y
    pub child_low : (w : Walk) {t : Task} → Needs m s d w t y → s.place y < task_level s d w (child m d y i t)
    child_low (applies op) needs =
        let low = needs.topmost in
        let a = follow_low y i hi needs.task_of.left needs.within (omega arith) in
        let b = follow_low y i hi needs.task_of.right needs.within (omega arith) in
        omega arith
    child_low (restricts x v) needs = let low = needs.topmost in follow_low y i hi needs.task_of.left needs.within (omega arith)

    -- and has the task's function at y = i
    pub child_means : (w : Walk) {t : Task} → Fair m s w → Needs m s d w t y → Agree s (meant m s d w (child m d y i t)) (λ a. meant m s d w t (updated a y i))
    child_means (applies op) fair needs a assigns =
        let low = needs.topmost in
        ap₂ op (follow_value y i hi needs.task_of.left needs.within (omega arith) a assigns)
        (follow_value y i hi needs.task_of.right needs.within (omega arith) a assigns)
    child_means (restricts x v) (hx, hv) needs a assigns =
        let of = needs.task_of.left in
        let there = updated_assigns s a x v assigns hv in
        let above = needs.before in
        let low = needs.topmost in
        let apart : y ≡ x → ⊥ = λ same. let places = ap s.place same in omega arith in
        follow_value y i hi of needs.within (omega arith) (updated a x v) there
        ∙ value_local sl red.ordered (updated (updated a x v) y i) (updated (updated a y i) x v) of.over (updated_assigns s (updated a x v) y i there hi)
        (λ z hz h. updated_both a x v y i apart z)
