-- The tasks of a walk: their functions, what settles one, and the variable at which one is taken apart. Assumes nothing.
use Rattle.std.proofs.Common.{◌≡◌, ℕ, ◌<◌, ◌≤◌, cond, eqb, sym, ap, ◌∙◌, subst, ap₂, arith}
use Rattle.mvl.specs.Labels.{Meaning, Laws}
use Rattle.diagrams.specs.Shape.{Shape, ShapeLaws, updated}
use Rattle.diagrams.specs.Functions.{Ranged, Depends}
use Rattle.diagrams.specs.Diagram.{Target, terminal, node, Edge, edge_to, turned, Nodes, reads, value, level, Stands, Over, Of, Reduced}
use Rattle.diagrams.specs.Build.{constant_edge}
use Rattle.diagrams.specs.Exchange.{through}
use Rattle.diagrams.specs.Walk.{Walk, applies, restricts, Fair, Task, TaskOf, meant, task_level, follow, Settles, Needs}
use Rattle.mvl.specs.Action.{zero_label_within, zero_value_within}
use Rattle.mvl.specs.Home.{home_low}
use Rattle.diagrams.proofs.Reading.Assignments.{updated_assigns}
use Rattle.diagrams.proofs.Reading.Values.{reads_terminal, level_high, value_local, value_within}
use Rattle.diagrams.proofs.Reading.Restriction.{restricted_here, restricted_past}
use Rattle.diagrams.proofs.Build.Gain.{constant_of, constant_value}
use Rattle.diagrams.proofs.Walk.Child.{follow_of, follow_high, follow_value}

-- for the right of a restriction: value 0 by label 0 is an edge of every table
pub zero_edge_of : {m : Meaning} → Laws m → (d : Nodes) → Of m d (edge_to 0 (terminal 0))
zero_edge_of l d = record {
  over = record { label_within = zero_label_within l; stands = zero_value_within l };
  home = omega (arith, home_low l 0 (zero_value_within l));
}

module _ {m : Meaning} (l : Laws m) {s : Shape} (sl : ShapeLaws s) {d : Nodes} (red : Reduced m s d) where
  -- the function of a task has values below the radix
  pub meant_ranged : (w : Walk) {t : Task} → Fair m s w → TaskOf m d t → Ranged m s (meant m s d w t)
  meant_ranged (applies op) {t} fair of a assigns =
      fair (value m s d t.left a) (value m s d t.right a) (value_within l sl red.ordered a of.left.over assigns)
      (value_within l sl red.ordered a of.right.over assigns)
  meant_ranged (restricts x v) (hx, hv) of a assigns = value_within l sl red.ordered (updated a x v) of.left.over (updated_assigns s a x v assigns hv)

  -- and depends on nothing above the task's place
  pub meant_depends : (w : Walk) {t : Task} → Fair m s w → TaskOf m d t → (p : ℕ) → p ≤ task_level s d w t → Depends s p (meant m s d w t)
  meant_depends (applies op) fair of p low a b ha hb same =
      ap₂ op (value_local sl red.ordered a b of.left.over ha (λ y hy h. same y hy (omega arith)))
      (value_local sl red.ordered a b of.right.over ha (λ y hy h. same y hy (omega arith)))
  meant_depends (restricts x v) (hx, hv) of p low a b ha hb same =
      value_local sl red.ordered (updated a x v) (updated b x v) of.left.over (updated_assigns s a x v ha hv)
      (λ y hy h. ap (λ c. cond (eqb y x) v c) (same y hy (omega arith)))

  -- an edge to a terminal has one value
  value_terminal : (e : Edge) (u : ℕ) → e.target ≡ terminal u → (a : ℕ → ℕ) → value m s d e a ≡ m.carry e.label u
  value_terminal e u is a = ap (λ (t : Target). m.carry e.label (reads m d s.count t a)) is ∙ ap (m.carry e.label) (reads_terminal m d s.count u a)

  carried_within : {e : Edge} {u : ℕ} → Over m d e → e.target ≡ terminal u → m.carry e.label u < m.radix
  carried_within {e} {u} over is = l.within e.label u over.label_within (subst (Stands m d) is over.stands)

  -- an operation on two terminals
  pub settles_constant : {op : ℕ → ℕ → ℕ} {t : Task} {u v : ℕ} → Fair m s (applies op) → TaskOf m d t
      → t.left.target ≡ terminal u → t.right.target ≡ terminal v
      → Settles m s d (applies op) t (constant_edge m (op (m.carry t.left.label u) (m.carry t.right.label v)))
  settles_constant {op} {t} {u} {v} fair of is-u is-v =
      let b : ℕ = m.carry t.left.label u in
      let c : ℕ = m.carry t.right.label v in
      let within = fair b c (carried_within of.left.over is-u) (carried_within of.right.over is-v) in
      record {
        of = constant_of l d (op b c) within;
        high = let h = level_high sl red.ordered t.left.target of.left.over.stands in omega arith;
        means = λ a assigns. constant_value l s d (op b c) within a ∙ sym (ap₂ op (value_terminal t.left u is-u a) (value_terminal t.right v is-v a));
      }

  -- an operation, where the left target is a node and the right one no higher
  pub needs_left : {op : ℕ → ℕ → ℕ} {t : Task} {q : ℕ} → TaskOf m d t → t.left.target ≡ node q → s.place (d.variable q) ≤ level s d t.right.target
      → Needs m s d (applies op) t (d.variable q)
  needs_left of is low = record {
    task_of = of;
    within = red.ordered.variable_within _ (subst (Stands m d) is of.left.over.stands);
    topmost = rw is (omega arith);
    before = tt;
  }

  -- where the right target is a node and the left one no higher
  pub needs_right : {op : ℕ → ℕ → ℕ} {t : Task} {q : ℕ} → TaskOf m d t → t.right.target ≡ node q → s.place (d.variable q) ≤ level s d t.left.target
      → Needs m s d (applies op) t (d.variable q)
  needs_right of is low = record {
    task_of = of;
    within = red.ordered.variable_within _ (subst (Stands m d) is of.right.over.stands);
    topmost = rw is (omega arith);
    before = tt;
  }

  module _ {x v : ℕ} (fair : Fair m s (restricts x v)) {t : Task} (of : TaskOf m d t) where
    -- a restriction, where x stands at or above the target: the edge followed
    pub settles_restricted : s.place x ≤ level s d t.left.target → Settles m s d (restricts x v) t (follow m d x v t.left)
    settles_restricted low = record {
      of = follow_of l sl red x v fair.1 of.left;
      high = follow_high l sl red x v fair.1 of.left;
      means = follow_value l sl red x v fair.1 of.left fair.0 low;
    }

    -- which is the edge itself, where it leads below x
    pub settles_below : s.place x < level s d t.left.target → Settles m s d (restricts x v) t t.left
    settles_below low =
        subst (Settles m s d (restricts x v) t) (restricted_past m s d x v t.left t.left.target low) (settles_restricted (omega arith))

    -- and else the node's edge
    pub settles_at : {q : ℕ} → t.left.target ≡ node q → d.variable q ≡ x → Settles m s d (restricts x v) t (turned m t.left.label (d.edge q v))
    settles_at {q} is same =
        let places = ap s.place same in
        subst (Settles m s d (restricts x v) t) (ap (through m d x v t.left) is ∙ restricted_here m d x v t.left q same)
        (settles_restricted (rw is (omega arith)))

    -- where the target is a node above x
    pub needs_above : {q : ℕ} → t.left.target ≡ node q → s.place (d.variable q) < s.place x → Needs m s d (restricts x v) t (d.variable q)
    needs_above is above = record {
      task_of = of;
      within = red.ordered.variable_within _ (subst (Stands m d) is of.left.over.stands);
      topmost = rw is (omega arith);
      before = above;
    }
