-- What the diagrams of a table keep, and what a call does to them. Assumes nothing.
use Rattle.std.proofs.Common.{◌≡◌, suc, ◌-◌, ◌≤◌, List, Err, sym, refl, ◌∙◌, subst, subst₂, arith}
use Rattle.mvl.specs.declared.refusal.Refusal.{Refusal}
use Rattle.mvl.specs.Numbers.{number}
use Rattle.mvl.specs.Labels.{Laws}
use Rattle.mvl.specs.Charted.{chart_laws}
use Rattle.diagrams.specs.Shape.{ShapeLaws}
use Rattle.diagrams.specs.Functions.{Agree}
use Rattle.diagrams.specs.Diagram.{Edge as Arrow, population, value, Of, Reduced}
use Rattle.diagrams.specs.Build.{Gains}
use Rattle.diagrams.specs.Calls.{Query, Call, asks, asked}
use Rattle.diagrams.specs.Refusals.{refusal}
use Rattle.diagrams.specs.Runs.{Step, answers, refuses, edge, refused}
use Rattle.diagrams.proofs.Build.Gain.{gains_known}
use Rattle.tables.specs.declared.parts.node.Node.{Node}
use Rattle.tables.specs.declared.parts.card.Card.{Card}
use Rattle.tables.specs.declared.parts.holding.Diagrams.{Diagrams}
use Rattle.tables.specs.Records.{nodes_in}
use Rattle.tables.specs.Cards.{shape_of, capacity_of}
use Rattle.tables.specs.Stores.{items}
use Rattle.tables.specs.Sounds.{Sound}
use Rattle.tables.specs.Did.{meaning_of, nodes_of, table_of, answer_of, Did}
use Rattle.tables.proofs.Refused.{number_some}
use Rattle.tables.proofs.Unique.{sound_out}
use Rattle.tables.proofs.CardFacts.{shape_laws_of}
use Rattle.tables.proofs.Appending.{population_is}

module _ (D : Diagrams) where
  pub laws : Laws (meaning_of D)
  laws = chart_laws D.chart

  pub shape_laws : ShapeLaws (shape_of D.card)
  shape_laws = shape_laws_of D.card

  pub sound_of : Sound (meaning_of D) (shape_of D.card) (items D.store)
  sound_of = sound_out D.sound

  pub reduced_of : Reduced (meaning_of D) (shape_of D.card) (nodes_of D)
  reduced_of = sound_of.reduced

  -- it has no more nodes than it may
  pub held_few : population (nodes_of D) ≤ D.card.capacity
  held_few = omega (arith, population_is (items D.store), D.store.within, D.store.nodes.ok.0, D.room)

  -- a call that is refused leaves the nodes as they were
  pub did_restore : {D' : Diagrams} (c : Call) (k : Refusal) → D'.chart ≡ D.chart → D'.card ≡ D.card → items D'.store ≡ items D.store
      → refusal (meaning_of D) (table_of D) c ≡ number k → Did D c (answer_of (Err k)) D'
  did_restore {D'} c k chart card same e =
      let less = number k - 1 in
      let is : suc less ≡ number k = omega (arith, number_some k) in
      record {
        chart = chart;
        card = card;
        step = subst₂ (λ (a : Card) (xs : List Node). Step (meaning_of D) (table_of D) c (refused (number k)) (record { shape = shape_of a; nodes = nodes_in xs; capacity = capacity_of a })) (sym card) (sym same)
            (subst (λ n. Step (meaning_of D) (table_of D) c (refused n) (table_of D)) is (refuses c less (e ∙ sym is)));
      }

  pub did_refuse : (c : Call) (k : Refusal) → refusal (meaning_of D) (table_of D) c ≡ number k → Did D c (answer_of (Err k)) D
  did_refuse c k e = did_restore c k refl refl refl e

  -- a call that gains a diagram
  pub did_gain : {D' : Diagrams} (q : Query) {e : Arrow} → D'.chart ≡ D.chart → D'.card ≡ D.card → refusal (meaning_of D) (table_of D) (asks q) ≡ 0
      → Gains (meaning_of D) (shape_of D.card) (nodes_of D) (asked (meaning_of D) (table_of D) q) (nodes_of D') e → Did D (asks q) (edge e) D'
  did_gain {D'} q {e} chart card granted gains = record {
    chart = chart;
    card = card;
    step = subst (λ (c : Card). Step (meaning_of D) (table_of D) (asks q) (edge e) (record { shape = shape_of c; nodes = nodes_of D'; capacity = capacity_of c })) (sym card)
        (answers q (nodes_of D') e granted gains);
  }

  -- a call that answers an edge of the table
  pub did_know : (q : Query) {e : Arrow} → refusal (meaning_of D) (table_of D) (asks q) ≡ 0 → Of (meaning_of D) (nodes_of D) e
      → Agree (shape_of D.card) (value (meaning_of D) (shape_of D.card) (nodes_of D) e) (asked (meaning_of D) (table_of D) q) → Did D (asks q) (edge e) D
  did_know q granted of agree = did_gain q refl refl granted (gains_known reduced_of of agree)
