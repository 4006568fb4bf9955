-- An edge followed node by node, its labels multiplied on the way. Assumes nothing.
use Rattle.std.proofs.Common.{◌≡◌, ℕ, zero, suc, ◌+◌, ◌/◌, ◌<◌, ◌≤◌, length, get_or, sym, refl, ap, ◌∙◌, subst, subst₂, arith}
use Rattle.mvl.specs.Labels.{product}
use Rattle.diagrams.specs.Shape.{Assignment}
use Rattle.diagrams.specs.Diagram.{Target, terminal, node, Edge as Arrow, edge_to, Nodes, value, visits, level, Over}
use Rattle.diagrams.proofs.Reading.Edges.{turned_over}
use Rattle.diagrams.proofs.Reading.Values.{reads_terminal, value_node, visits_node, node_level}
use Rattle.tables.specs.declared.parts.key.Key.{Key}
use Rattle.tables.specs.declared.parts.target.Target.{Target as Aim}
use Rattle.tables.specs.declared.parts.holding.Diagrams.{Diagrams}
use Rattle.tables.specs.Edges.{target_of, word_at, arrows}
use Rattle.tables.specs.Records.{at}
use Rattle.tables.specs.Cards.{shape_of}
use Rattle.tables.specs.Stores.{items}
use Rattle.tables.specs.Did.{meaning_of, nodes_of}
use Rattle.tables.proofs.Facts.{reduced_of, laws, shape_laws}

-- the edge e at a is what the edge (label, t) is, after so many nodes
pub record Following (D : Diagrams) (e : Arrow) (a : ℕ → ℕ) (label : ℕ) (t : Target) (visited : ℕ) : Type 0 where
  pub over : Over (meaning_of D) (nodes_of D) (edge_to label t)
  pub same : value (meaning_of D) (shape_of D.card) (nodes_of D) e a ≡ value (meaning_of D) (shape_of D.card) (nodes_of D) (edge_to label t) a
  pub count : visits (nodes_of D) D.card.n e.target a ≡ visited + visits (nodes_of D) D.card.n t a
  pub low : visited ≤ level (shape_of D.card) (nodes_of D) t

visits_terminal : (d : Nodes) (k v : ℕ) (a : ℕ → ℕ) → visits d k (terminal v) a ≡ 0
visits_terminal d zero v a = refl
visits_terminal d (suc k) v a = refl

module _ (D : Diagrams) {e : Arrow} {a : ℕ → ℕ} (assigns : Assignment (shape_of D.card) a) {label visited : ℕ} where
  -- a node is reached
  module _ {r : ℕ} (f : Following D e a label (node r) visited) where
    pub within : r < length (items D.store)
    within = f.over.stands.0

    variable_low : (nodes_of D).variable r < D.card.n
    variable_low = (reduced_of D).ordered.variable_within r f.over.stands

    value_low : a ((nodes_of D).variable r) < get_or D.card.sizes ((nodes_of D).variable r) 0
    value_low = assigns ((nodes_of D).variable r) variable_low

    over_taken : Over (meaning_of D) (nodes_of D) ((nodes_of D).edge r (a ((nodes_of D).variable r)))
    over_taken = (reduced_of D).ordered.over r (a ((nodes_of D).variable r)) f.over.stands value_low

    pub visited_low : visited < D.card.n
    visited_low = omega (arith, f.low, node_level (shape_laws D) (reduced_of D).ordered r f.over.stands)

    follow_on : Following D e a (product (meaning_of D) label ((nodes_of D).edge r (a ((nodes_of D).variable r))).label) ((nodes_of D).edge r (a ((nodes_of D).variable r))).target (visited + 1)
    follow_on =
        let l = f.low in
        let lower = (reduced_of D).ordered.below r (a ((nodes_of D).variable r)) f.over.stands value_low in
        let counted = visits_node (shape_laws D) (reduced_of D).ordered r a f.over.stands assigns in
        record {
          over = turned_over (laws D) label f.over.label_within over_taken;
          same = f.same ∙ value_node (laws D) (shape_laws D) (reduced_of D).ordered label r a f.over assigns;
          count = omega (arith, f.count, counted);
          low = omega arith;
        }

    -- the same of a key that was read
    module _ {k : Key} (is : k ≡ (at (items D.store) r).key) where
      pub read_variable : k.variable < D.card.n
      read_variable = subst (λ (y : Key). y.variable < D.card.n) (sym is) variable_low

      pub read_value : a k.variable < 4
      read_value =
          subst (λ (y : Key). a y.variable < 4) (sym is)
          (omega (arith, value_low, (shape_laws D).size_high ((nodes_of D).variable r) variable_low))

      pub read_label : word_at k.edges (a k.variable) / 16384 < D.chart.labels
      read_label = subst (λ (y : Key). word_at y.edges (a y.variable) / 16384 < D.chart.labels) (sym is) over_taken.label_within

      pub read_on : {label' : ℕ} {t : Target} → label' ≡ product (meaning_of D) label (word_at k.edges (a k.variable) / 16384)
          → t ≡ (arrows k.edges (a k.variable)).target → Following D e a label' t (visited + 1)
      read_on l t =
          subst₂ (λ l g. Following D e a l g (visited + 1)) (sym l) (sym t)
          (subst (λ (y : Key). Following D e a (product (meaning_of D) label (word_at y.edges (a y.variable) / 16384)) (arrows y.edges (a y.variable)).target (visited + 1)) (sym is) follow_on)

  -- a terminal is reached
  module _ {v : ℕ} (f : Following D e a label (terminal v) visited) where
    pub terminal_low : v < D.chart.radix
    terminal_low = f.over.stands

    pub value_there : value (meaning_of D) (shape_of D.card) (nodes_of D) e a ≡ (meaning_of D).carry label v
    value_there = f.same ∙ ap ((meaning_of D).carry label) (reads_terminal (meaning_of D) (nodes_of D) D.card.n v a)

    pub visited_there : visits (nodes_of D) D.card.n e.target a ≡ visited
    visited_there = let none = visits_terminal (nodes_of D) D.card.n v a in omega (arith, f.count, none)

    pub visited_few : visited ≤ D.card.n
    visited_few = f.low

-- at first
pub follow_start : (D : Diagrams) (e : Arrow) (a : ℕ → ℕ) {k : ℕ} {t : Target} → k ≡ e.label → t ≡ e.target → Over (meaning_of D) (nodes_of D) e → Following D e a k t 0
follow_start D e a l t over =
    subst₂ (λ k g. Following D e a k g 0) (sym l) (sym t) (record { over = over; same = refl; count = omega arith; low = omega arith })

-- at the target that was found
pub reached : {D : Diagrams} {e : Arrow} {a : ℕ → ℕ} {label visited : ℕ} {t u : Aim} → t ≡ u → Following D e a label (target_of t) visited → Following D e a label (target_of u) visited
reached {D} {e} {a} {label} {visited} is f = subst (λ (t : Aim). Following D e a label (target_of t) visited) is f
