-- Edges that walks follow, and tasks that are settled. Assumes nothing.
use Rattle.std.proofs.Common.{◌≡◌, ℕ, ◌+◌, ◌*◌, ◌/◌, ◌<◌, ◌≤◌, List, get_or, sym, ap, ◌∙◌, subst, ap₂, arith}
use Rattle.diagrams.specs.Diagram.{Target, terminal, node, level, Has, Of, Stands}
use Rattle.diagrams.specs.Build.{constant_edge}
use Rattle.diagrams.specs.Walk.{applies, restricts, Fair, TaskOf, follow, Settles}
use Rattle.diagrams.proofs.Walk.Task.{settles_constant, settles_restricted}
use Rattle.tables.specs.declared.parts.edge.Edge.{Edge}
use Rattle.tables.specs.declared.parts.key.Key.{Key}
use Rattle.tables.specs.declared.engine.task.Task.{Task}
use Rattle.tables.specs.declared.parts.holding.Diagrams.{Diagrams}
use Rattle.tables.specs.Edges.{arrow, word_at}
use Rattle.tables.specs.Records.{at}
use Rattle.tables.specs.Cards.{shape_of}
use Rattle.tables.specs.Stores.{items}
use Rattle.tables.specs.Did.{meaning_of, nodes_of}
use Rattle.tables.specs.Walks.{told, task_of}
use Rattle.tables.proofs.Facts.{laws, shape_laws, reduced_of}

module _ (D : Diagrams) where
  -- the key of the node that an edge of the table leads to, as it was read, at a value of its variable
  module _ (e : Edge) (of : Of (meaning_of D) (nodes_of D) (arrow e)) {r : ℕ} (leads : node r ≡ (arrow e).target) {k : Key} (is : k ≡ (at (items D.store) r).key)
      {x i : ℕ} (hi : i < get_or D.card.sizes x 0) (own : k.variable ≡ x) where
    there : Has (nodes_of D) r
    there = subst (Stands (meaning_of D) (nodes_of D)) (sym leads) of.over.stands

    own_there : (nodes_of D).variable r ≡ x
    own_there = ap (λ (k : Key). k.variable) (sym is) ∙ own

    pub value_few : i < 4
    value_few = omega (arith, (shape_laws D).size_high x (subst (λ y. y < D.card.n) own_there ((reduced_of D).ordered.variable_within r there)))

    pub label_there : word_at k.edges i / 16384 < D.chart.labels
    label_there =
        subst (λ (k : Key). word_at k.edges i / 16384 < D.chart.labels) (sym is)
        ((reduced_of D).ordered.over r i there (subst (λ y. i < get_or D.card.sizes y 0) (sym own_there) hi)).label_within

  -- a node does not stand below every variable
  pub node_high : (e : Edge) → Of (meaning_of D) (nodes_of D) (arrow e) → {r : ℕ} → node r ≡ (arrow e).target → level (shape_of D.card) (nodes_of D) (arrow e).target < D.card.n
  node_high e of {r} leads =
      let d = nodes_of D in
      let has = subst (Stands (meaning_of D) d) (sym leads) of.over.stands in
      subst (λ (t : Target). level (shape_of D.card) d t < D.card.n) leads ((shape_laws D).place_within (d.variable r) ((reduced_of D).ordered.variable_within r has))

  -- two terminals give a constant
  pub settled_pair : (answers : List ℕ) (t : Task) {u v a b : ℕ} (r : Edge) → Fair (meaning_of D) (shape_of D.card) (applies (told answers))
      → TaskOf (meaning_of D) (nodes_of D) (task_of t)
      → terminal u ≡ (arrow t.left).target
      → terminal v ≡ (arrow t.right).target
      → a ≡ (meaning_of D).carry (t.left.word / 16384) u
      → b ≡ (meaning_of D).carry (t.right.word / 16384) v
      → arrow r ≡ constant_edge (meaning_of D) (get_or answers (4 * a + b) 0)
      → Settles (meaning_of D) (shape_of D.card) (nodes_of D) (applies (told answers)) (task_of t) (arrow r)
  settled_pair answers t r fair of left right is-a is-b is =
      let m = meaning_of D in
      subst (Settles m (shape_of D.card) (nodes_of D) (applies (told answers)) (task_of t))
      (sym (is ∙ ap₂ (λ (a b : ℕ). constant_edge m (told answers a b)) is-a is-b))
      (settles_constant (laws D) (shape_laws D) (reduced_of D) fair of (sym left) (sym right))

  -- an edge that leads to a node of x or below it is followed
  pub settled_single : {x v : ℕ} (t : Task) (r : Edge) → Fair (meaning_of D) (shape_of D.card) (restricts x v)
      → TaskOf (meaning_of D) (nodes_of D) (task_of t)
      → get_or D.card.place x 0 ≤ level (shape_of D.card) (nodes_of D) (arrow t.left).target
      → arrow r ≡ follow (meaning_of D) (nodes_of D) x v (arrow t.left)
      → Settles (meaning_of D) (shape_of D.card) (nodes_of D) (restricts x v) (task_of t) (arrow r)
  settled_single {x} {v} t r fair of low is =
      subst (Settles (meaning_of D) (shape_of D.card) (nodes_of D) (restricts x v) (task_of t)) (sym is)
      (settles_restricted (laws D) (shape_laws D) (reduced_of D) fair of low)
