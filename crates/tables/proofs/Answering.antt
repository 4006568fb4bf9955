-- Constants and turns. Assumes nothing.
use Rattle.std.proofs.Common.{◌≡◌, ℕ, ◌<◌, ◌≤◌, true, false, ltb, sym, ◌∙◌, subst, arith, ltb→lt}
use Rattle.mvl.specs.Tests.{passed}
use Rattle.mvl.specs.declared.refusal.Refusal.TheVariants.{NoEdge, NoValue, NoLabel}
use Rattle.diagrams.specs.Diagram.{Edge as Arrow, turned}
use Rattle.diagrams.specs.Build.{constant_edge}
use Rattle.diagrams.specs.Calls.{asks, constant, turn}
use Rattle.diagrams.specs.Refusals.{unless, is_edge}
use Rattle.diagrams.specs.Runs.{edge, refused}
use Rattle.diagrams.proofs.Reading.Edges.{turned_of}
use Rattle.diagrams.proofs.Reading.Values.{value_turned}
use Rattle.diagrams.proofs.Build.Gain.{constant_of, constant_value}
use Rattle.diagrams.proofs.Calls.Granted.{edge_is, granted_from}
use Rattle.tables.specs.declared.parts.holding.Diagrams.{Diagrams}
use Rattle.tables.specs.Cards.{shape_of}
use Rattle.tables.specs.Did.{meaning_of, nodes_of, table_of, Did}
use Rattle.tables.proofs.Refused.{failed, unless_no, unless_yes}
use Rattle.tables.proofs.Facts.{reduced_of, laws, shape_laws, did_refuse, did_know}

module _ (D : Diagrams) where
  pub constant_large : (v : ℕ) → D.chart.radix ≤ v → Did D (asks (constant v)) (refused 5) D
  constant_large v h = did_refuse D (asks (constant v)) NoValue (unless_no (ltb v D.chart.radix) NoValue 0 (λ t. let l = ltb→lt v D.chart.radix t in omega arith))

  pub constant_known : (v : ℕ) → v < D.chart.radix → {e : Arrow} → e ≡ constant_edge (meaning_of D) v → Did D (asks (constant v)) (edge e) D
  constant_known v h is =
      subst (λ (e : Arrow). Did D (asks (constant v)) (edge e) D) (sym is)
      (did_know D (constant v) (granted_from (meaning_of D) (table_of D) (asks (constant v)) h) (constant_of (laws D) (nodes_of D) v h)
      (λ a assigns. constant_value (laws D) (shape_of D.card) (nodes_of D) v h a))

  module _ (e : Arrow) (k : ℕ) where
    pub turn_strange : false ≡ is_edge (meaning_of D) (nodes_of D) e → Did D (asks (turn e k)) (refused 3) D
    turn_strange f = did_refuse D (asks (turn e k)) NoEdge (unless_no (is_edge (meaning_of D) (nodes_of D) e) NoEdge (unless (ltb k D.chart.labels) NoLabel 0) (failed f))

    pub turn_unlabelled : true ≡ is_edge (meaning_of D) (nodes_of D) e → D.chart.labels ≤ k → Did D (asks (turn e k)) (refused 6) D
    turn_unlabelled t h =
        did_refuse D (asks (turn e k)) NoLabel
        (unless_yes (is_edge (meaning_of D) (nodes_of D) e) NoEdge (unless (ltb k D.chart.labels) NoLabel 0) (passed (sym t))
        ∙ unless_no (ltb k D.chart.labels) NoLabel 0 (λ t. let l = ltb→lt k D.chart.labels t in omega arith))

    pub turn_known : true ≡ is_edge (meaning_of D) (nodes_of D) e → k < D.chart.labels → {f : Arrow} → f ≡ turned (meaning_of D) k e → Did D (asks (turn e k)) (edge f) D
    turn_known t h is =
        let of = edge_is (meaning_of D) (nodes_of D) e (passed (sym t)) in
        subst (λ (f : Arrow). Did D (asks (turn e k)) (edge f) D) (sym is)
        (did_know D (turn e k) {e = turned (meaning_of D) k e} (granted_from (meaning_of D) (table_of D) (asks (turn e k)) (of, h)) (turned_of (laws D) k h of)
        (λ a assigns. value_turned (laws D) (shape_laws D) (reduced_of D).ordered k a h of.over assigns))
