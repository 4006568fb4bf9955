-- Calls that are walks: when they are refused, and what they gain. Assumes nothing.
use Rattle.std.proofs.Common.{◌≡◌, ℕ, ◌≤◌, Bool, true, false, ◌&&◌, T, eqb, ltb, List, get_or, Ok, Err, Result, sym, refl, ◌∙◌, subst, arith, le→leb, eqb→eq, leb→le}
use Rattle.mvl.specs.declared.refusal.Refusal.{Refusal}
use Rattle.mvl.specs.declared.refusal.Refusal.TheVariants.{NoEdge, NoVariable, NoValue, WrongRadix, NoRoom}
use Rattle.mvl.specs.Numbers.{number}
use Rattle.mvl.specs.Operations.{Binary, Closed}
use Rattle.mvl.specs.Tests.{passed, and_left, and_right, equal_passes}
use Rattle.diagrams.specs.Functions.{Agree}
use Rattle.diagrams.specs.Diagram.{population}
use Rattle.diagrams.specs.Calls.{Query, asks, asked, apply, restrict}
use Rattle.diagrams.specs.Refusals.{unless, refusal, is_edge, fits, adding, room_for}
use Rattle.diagrams.specs.Walk.{Walk as Way, applies, restricts, Fair, TaskOf}
use Rattle.diagrams.proofs.Reading.Values.{value_within}
use Rattle.diagrams.proofs.Build.Agree.{gains_agree, lacking_agree}
use Rattle.diagrams.proofs.Build.Count.{gains_count}
use Rattle.diagrams.proofs.Calls.Granted.{edge_is}
use Rattle.diagrams.proofs.Walk.Work.{start_ranged, start_depends}
use Rattle.tables.specs.declared.parts.edge.Edge.{Edge}
use Rattle.tables.specs.declared.parts.card.Card.{Card}
use Rattle.tables.specs.declared.engine.task.Task.{Task}
use Rattle.tables.specs.declared.parts.holding.Diagrams.{Diagrams}
use Rattle.tables.specs.Edges.{arrow}
use Rattle.tables.specs.Cards.{shape_of}
use Rattle.tables.specs.Did.{meaning_of, nodes_of, table_of, answer_of, Did}
use Rattle.tables.specs.Walks.{told, Tabulates, task_of, walked, Walked}
use Rattle.tables.specs.Tested.{no_value, unfit}
use Rattle.tables.proofs.Refused.{failed, unless_no, unless_yes, stops_at_two, passed_two}
use Rattle.tables.proofs.Testing.{value_there, value_past}
use Rattle.tables.proofs.Facts.{laws, shape_laws, reduced_of, held_few, did_refuse, did_restore, did_gain}
use Rattle.tables.proofs.Looping.{start}

-- a query that want of room alone can refuse
module _ (D : Diagrams) (q : Query) (past : refusal (meaning_of D) (table_of D) (asks q) ≡ room_for (meaning_of D) (table_of D) (asks q)) where
  did_walked : (w : Way) (t : Task) {D' : Diagrams} → Fair (meaning_of D) (shape_of D.card) w → TaskOf (meaning_of D) (nodes_of D) (task_of t)
      → Agree (shape_of D.card) (walked D w t) (asked (meaning_of D) (table_of D) q) → (r : Result Edge Refusal) → Walked D w t r D' → Did D (asks q) (answer_of r) D'
  did_walked w t {D'} fair of agree (Ok r) g =
      let gains = gains_agree agree g.gains in
      let count = gains_count (laws D) (shape_laws D) (reduced_of D) (asked (meaning_of D) (table_of D) q) gains in
      let few = subst (λ (c : Card). population (nodes_of D') ≤ c.capacity) g.grown.card (held_few D') in
      did_gain D q g.grown.chart g.grown.card
      (past ∙ unless_yes (fits (table_of D) (adding (meaning_of D) (table_of D) (asks q))) NoRoom 0 (le→leb _ D.card.capacity (omega arith))) gains
  did_walked w t {D'} fair of agree (Err k) g =
      let st = start D t fair of in
      let lacks = g.0.lacks in
      let same = lacking_agree (laws D) (shape_laws D) (reduced_of D) (walked D w t) (asked (meaning_of D) (table_of D) q) (start_ranged st) (start_depends st) agree in
      subst (λ (k : Refusal). Did D (asks q) (answer_of (Err k)) D') (sym g.0.is)
      (did_restore D (asks q) NoRoom g.0.grown.chart g.0.grown.card g.1
      (past ∙ unless_no (fits (table_of D) (adding (meaning_of D) (table_of D) (asks q))) NoRoom 0 (λ t. let room = leb→le _ D.card.capacity t in omega arith)))

-- an edge restricted
module _ (D : Diagrams) (e : Edge) (x v : ℕ) where
  abbrev fixing : Query
  fixing = restrict (arrow e) x v

  abbrev within : ℕ
  within = unless (ltb x D.card.n) NoVariable (unless (ltb v (get_or D.card.sizes x 0)) NoValue (room_for (meaning_of D) (table_of D) (asks fixing)))

  pub restrict_strange : false ≡ is_edge (meaning_of D) (nodes_of D) (arrow e) → Did D (asks fixing) (answer_of (Err NoEdge)) D
  restrict_strange f = did_refuse D (asks fixing) NoEdge (unless_no (is_edge (meaning_of D) (nodes_of D) (arrow e)) NoEdge within (failed f))

  module _ (yes : true ≡ is_edge (meaning_of D) (nodes_of D) (arrow e)) where
    past_edge : refusal (meaning_of D) (table_of D) (asks fixing) ≡ within
    past_edge = unless_yes (is_edge (meaning_of D) (nodes_of D) (arrow e)) NoEdge within (passed (sym yes))

    pub restrict_unfit : (k : Refusal) → no_value D.card x v ≡ number k → Did D (asks fixing) (answer_of (Err k)) D
    restrict_unfit k refused =
        did_refuse D (asks fixing) k
        (past_edge ∙ stops_at_two (ltb x D.card.n) (ltb v (get_or D.card.sizes x 0)) NoVariable NoValue k (room_for (meaning_of D) (table_of D) (asks fixing)) refused)

    restrict_of : TaskOf (meaning_of D) (nodes_of D) (record { left = arrow e; right = arrow e })
    restrict_of = let of = edge_is (meaning_of D) (nodes_of D) (arrow e) (passed (sym yes)) in record { left = of; right = of }

    pub restrict_did : no_value D.card x v ≡ 0 → {D' : Diagrams} (r : Result Edge Refusal) → Walked D (restricts x v) (record { left = e; right = e }) r D'
        → Did D (asks fixing) (answer_of r) D'
    restrict_did known r g =
        did_walked D fixing (past_edge ∙ value_past D.card x v known (room_for (meaning_of D) (table_of D) (asks fixing)))
        (restricts x v) (record { left = e; right = e }) (value_there D.card x v known) restrict_of (λ a assigns. refl) r g

-- an operation applied; the code has its radix as p
module _ (D : Diagrams) (o : Binary) (e f : Edge) {p : ℕ} (same : p ≡ o.radix) where
  abbrev joining : Query
  joining = apply o.radix o.answer (arrow e) (arrow f)

  abbrev fitting : ℕ
  fitting = unless (eqb o.radix D.chart.radix) WrongRadix (room_for (meaning_of D) (table_of D) (asks joining))

  abbrev edges : Bool
  edges = is_edge (meaning_of D) (nodes_of D) (arrow e) && is_edge (meaning_of D) (nodes_of D) (arrow f)

  -- it does not fit
  pub apply_unfit : (k : Refusal) → unfit D p e f ≡ number k → Did D (asks joining) (answer_of (Err k)) D
  apply_unfit k refused =
      did_refuse D (asks joining) k
      (stops_at_two edges (eqb o.radix D.chart.radix) NoEdge WrongRadix k (room_for (meaning_of D) (table_of D) (asks joining))
      (subst (λ (r : ℕ). unless edges NoEdge (unless (eqb r D.chart.radix) WrongRadix 0) ≡ number k) same refused))

  -- it does
  module _ (fit : unfit D p e f ≡ 0) where
    tests : T edges × T (eqb p D.chart.radix)
    tests = passed_two edges (eqb p D.chart.radix) NoEdge WrongRadix fit

    own_radix : o.radix ≡ D.chart.radix
    own_radix = sym same ∙ eqb→eq p D.chart.radix tests.1

    apply_of : TaskOf (meaning_of D) (nodes_of D) (record { left = arrow e; right = arrow f })
    apply_of =
        let a = is_edge (meaning_of D) (nodes_of D) (arrow e) in
        let b = is_edge (meaning_of D) (nodes_of D) (arrow f) in
        record { left = edge_is (meaning_of D) (nodes_of D) (arrow e) (and_left a b tests.0); right = edge_is (meaning_of D) (nodes_of D) (arrow f) (and_right a b tests.0) }

    module _ (closed : Closed o) (answers : List ℕ) (tabulates : Tabulates o answers) where
      apply_fair : Fair (meaning_of D) (shape_of D.card) (applies (told answers))
      apply_fair a b ha hb =
          let radix = own_radix in
          omega (arith, tabulates a b (omega arith) (omega arith), closed.within a b (omega arith) (omega arith))

      pub apply_did : {D' : Diagrams} (r : Result Edge Refusal) → Walked D (applies (told answers)) (record { left = e; right = f }) r D'
          → Did D (asks joining) (answer_of r) D'
      apply_did r g =
          let radix = own_radix in
          did_walked D joining (unless_yes edges NoEdge fitting tests.0 ∙ unless_yes (eqb o.radix D.chart.radix) WrongRadix _ (equal_passes own_radix))
          (applies (told answers)) (record { left = e; right = f }) apply_fair apply_of
          (λ a assigns.
          let he = value_within (laws D) (shape_laws D) (reduced_of D).ordered a apply_of.left.over assigns in
          let hf = value_within (laws D) (shape_laws D) (reduced_of D).ordered a apply_of.right.over assigns in
          tabulates _ _ (omega arith) (omega arith))
          r g
