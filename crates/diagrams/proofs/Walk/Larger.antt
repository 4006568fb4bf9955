-- The tasks of a table in a larger one: what holds of them there holds here. Assumes nothing.
use Rattle.std.proofs.Common.{◌≡◌, ℕ, ◌<◌, min, sym, refl, ap, ◌∙◌, subst, ap₂, ⊎_elim}
use Rattle.std.proofs.lemmas.Bool.{cases_eq}
use Rattle.mvl.specs.Labels.{Meaning}
use Rattle.diagrams.specs.Shape.{Shape, updated}
use Rattle.diagrams.specs.Functions.{Agree}
use Rattle.diagrams.specs.Diagram.{Target, terminal, node, Edge, turned, Nodes, Has, Stands, Of, Ordered}
use Rattle.diagrams.specs.Make.{Keeps}
use Rattle.diagrams.specs.Exchange.{through}
use Rattle.diagrams.specs.Walk.{Walk, applies, restricts, Fair, Task, TaskOf, meant, task_level, follow, child, Settles, Needs}
use Rattle.diagrams.proofs.Reading.Assignments.{updated_assigns}
use Rattle.diagrams.proofs.Reading.Restriction.{restricted_here, restricted_other}
use Rattle.diagrams.proofs.Build.Keep.{of_kept, level_kept, value_kept}

module _ {m : Meaning} {s : Shape} {d d' : Nodes} (o : Ordered m s d) (keeps : Keeps s d d') where
  pub task_of_kept : {t : Task} → TaskOf m d t → TaskOf m d' t
  task_of_kept of = record { left = of_kept d d' keeps.has m of.left; right = of_kept d d' keeps.has m of.right }

  -- its place and its function
  pub task_level_kept : (w : Walk) {t : Task} → TaskOf m d t → task_level s d' w t ≡ task_level s d w t
  task_level_kept (applies op) {t} of =
      ap₂ min (level_kept m keeps t.left.target of.left.over.stands) (level_kept m keeps t.right.target of.right.over.stands)
  task_level_kept (restricts x v) {t} of = level_kept m keeps t.left.target of.left.over.stands

  pub meant_kept : (w : Walk) {t : Task} → Fair m s w → TaskOf m d t → Agree s (meant m s d' w t) (meant m s d w t)
  meant_kept (applies op) fair of a assigns = ap₂ op (value_kept m keeps o of.left.over a assigns) (value_kept m keeps o of.right.over a assigns)
  meant_kept (restricts x v) (hx, hv) of a assigns = value_kept m keeps o of.left.over (updated a x v) (updated_assigns s a x v assigns hv)

  -- its children
  follow_kept : (y i : ℕ) → i < s.size y → {e : Edge} → Of m d e → follow m d' y i e ≡ follow m d y i e
  follow_kept y i hi {e} of = go e.target refl
    where
      go : (t : Target) → e.target ≡ t → through m d' y i e t ≡ through m d y i e t
      go (terminal v) is = refl
      go (node q) is =
          let has : Has d q = subst (Stands m d) is of.over.stands in
          let v = keeps.variable q has in
          ⊎_elim
          (λ (same : d.variable q ≡ y).
          restricted_here m d' y i e q (v ∙ same)
          ∙ ap (λ (f : Edge). turned m e.label f) (keeps.edge q i has (rw same hi))
          ∙ sym (restricted_here m d y i e q same))
          (λ other. restricted_other m d' y i e q (λ p. other (sym v ∙ p)) ∙ sym (restricted_other m d y i e q other))
          (cases_eq (d.variable q) y)

  pub child_kept : (y i : ℕ) → i < s.size y → {t : Task} → TaskOf m d t → child m d' y i t ≡ child m d y i t
  child_kept y i hi {t} of =
      let p = follow_kept y i hi of.left in
      let q = follow_kept y i hi of.right in
      λ j. record { left = p j; right = q j }

  -- the variables at which it may be taken apart, there and here
  pub needs_kept : (w : Walk) {t : Task} {y : ℕ} → Needs m s d w t y → Needs m s d' w t y
  needs_kept w needs = record {
    task_of = task_of_kept needs.task_of;
    within = needs.within;
    topmost = needs.topmost ∙ sym (task_level_kept w needs.task_of);
    before = needs.before;
  }

  pub needs_back : (w : Walk) {t : Task} {y : ℕ} → TaskOf m d t → Needs m s d' w t y → Needs m s d w t y
  needs_back w of needs = record {
    task_of = of;
    within = needs.within;
    topmost = needs.topmost ∙ task_level_kept w of;
    before = needs.before;
  }

  -- an edge that settles it
  pub settles_kept : (w : Walk) {t : Task} {r : Edge} → Fair m s w → TaskOf m d t → Settles m s d w t r → Settles m s d' w t r
  settles_kept w {t} {r} fair of settles = record {
    of = of_kept d d' keeps.has m settles.of;
    high = rw (task_level_kept w of, level_kept m keeps r.target settles.of.over.stands) settles.high;
    means = λ a assigns. value_kept m keeps o settles.of.over a assigns ∙ settles.means a assigns ∙ sym (meant_kept w fair of a assigns);
  }
