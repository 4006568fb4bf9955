-- The diagram of a function of one variable: one node, with the edge of a constant for each value. Assumes nothing.
use Rattle.std.proofs.Common.{◌≡◌, ℕ, ◌+◌, ◌-◌, ◌<◌, ◌≤◌, cond, T, eqb, ltb, leb, List, get_or, Ok, Err, Result, sym, refl, ap, ◌∙◌, subst, subst₂, arith, le→leb, ltb→lt, leb→le}
use Rattle.mvl.specs.declared.refusal.Refusal.{Refusal}
use Rattle.mvl.specs.declared.refusal.Refusal.TheVariants.{NoVariable, NoValue, TooWide, NoRoom}
use Rattle.mvl.specs.Numbers.{number}
use Rattle.mvl.specs.Tests.{cond_cases}
use Rattle.diagrams.specs.Shape.{Assignment}
use Rattle.diagrams.specs.Functions.{Ranged, Depends}
use Rattle.diagrams.specs.Diagram.{Edge as Arrow, population, value, level, Of, reaches}
use Rattle.diagrams.specs.Make.{Asks, Makes}
use Rattle.diagrams.specs.Build.{Gains, Wanted, constant_edge}
use Rattle.diagrams.specs.Calls.{Query, asks, variable, literal, asked}
use Rattle.diagrams.specs.Refusals.{unless, refusal, fits, adding, room_for, Room}
use Rattle.diagrams.proofs.Reading.Reaching.{reaches_itself}
use Rattle.diagrams.proofs.Least.Inside.{inside_itself, inside_same, inside_lower}
use Rattle.diagrams.proofs.Build.Keep.{keeps_refl}
use Rattle.diagrams.proofs.Build.Gain.{constant_of, constant_value}
use Rattle.diagrams.proofs.Build.Count.{gains_count}
use Rattle.diagrams.proofs.Build.Want.{wanted_fits}
use Rattle.diagrams.proofs.Calls.Granted.{granted_from}
use Rattle.tables.specs.declared.parts.edge.Edge.{Edge}
use Rattle.tables.specs.declared.parts.card.Card.{Card}
use Rattle.tables.specs.declared.parts.holding.Diagrams.{Diagrams}
use Rattle.tables.specs.Edges.{arrow, arrows}
use Rattle.tables.specs.Cards.{shape_of}
use Rattle.tables.specs.Stores.{items}
use Rattle.tables.specs.Finds.{Filled}
use Rattle.tables.specs.Makes.{MakesNode}
use Rattle.tables.specs.Tested.{no_variable, no_value}
use Rattle.tables.specs.Did.{meaning_of, nodes_of, table_of, answer_of, Did}
use Rattle.tables.proofs.Refused.{unless_no, unless_yes, stops, stops_at_two, passed_one}
use Rattle.tables.proofs.Testing.{value_there, value_past}
use Rattle.tables.proofs.Appending.{population_is}
use Rattle.tables.proofs.Facts.{laws, shape_laws, reduced_of, held_few, did_refuse, did_gain}

-- a query that asks for f of the value of x
module _ (D : Diagrams) (q : Query) (x : ℕ) (hx : x < D.card.n) (f : ℕ → ℕ) (low : (i : ℕ) → i < get_or D.card.sizes x 0 → f i < D.chart.radix)
    (is : (a : ℕ → ℕ) → asked (meaning_of D) (table_of D) q a ≡ f (a x))
    (ns : List Edge) (filled : Filled (λ i. constant_edge (meaning_of D) (f i)) (get_or D.card.sizes x 0) ns) where
  single_asks : Asks (meaning_of D) (shape_of D.card) (nodes_of D) x (arrows ns)
  single_asks = record {
    within = hx;
    of = λ i h. subst (Of (meaning_of D) (nodes_of D)) (sym (filled.used i h)) (constant_of (laws D) (nodes_of D) (f i) (low i h));
    below = λ i h. subst (λ (e : Arrow). get_or D.card.place x 0 < level (shape_of D.card) (nodes_of D) e.target) (sym (filled.used i h))
        ((shape_laws D).place_within x hx);
  }

  reads_single : (a : ℕ → ℕ) → Assignment (shape_of D.card) a
      → value (meaning_of D) (shape_of D.card) (nodes_of D) (arrows ns (a x)) a ≡ asked (meaning_of D) (table_of D) q a
  reads_single a assigns =
      let h = assigns x hx in
      ap (λ (e : Arrow). value (meaning_of D) (shape_of D.card) (nodes_of D) e a) (filled.used (a x) h)
      ∙ constant_value (laws D) (shape_of D.card) (nodes_of D) (f (a x)) (low (a x) h) a ∙ sym (is a)

  single_gains : (D' : Diagrams) {e : Arrow} → Makes (meaning_of D) (shape_of D.card) (nodes_of D) x (arrows ns) (nodes_of D') e
      → Gains (meaning_of D) (shape_of D.card) (nodes_of D) (asked (meaning_of D) (table_of D) q) (nodes_of D') e
  single_gains D' made = record {
    reduced = made.reduced;
    keeps = made.keeps;
    of = made.of;
    function = λ a assigns. made.function a assigns ∙ reads_single a assigns;
    lacked = λ p h new. subst (λ t. T (reaches (shape_of D.card) (nodes_of D') D.card.n t p)) (sym (made.lacked p h new))
        (reaches_itself (shape_of D.card) (nodes_of D') D.card.n p);
  }

  ranged : Ranged (meaning_of D) (shape_of D.card) (asked (meaning_of D) (table_of D) q)
  ranged a assigns = subst (λ v. v < D.chart.radix) (sym (is a)) (low (a x) (assigns x hx))

  depends_from : (t : ℕ) → t ≤ get_or D.card.place x 0 → Depends (shape_of D.card) t (asked (meaning_of D) (table_of D) q)
  depends_from t h a b ha hb same = is a ∙ ap f (same x hx h) ∙ sym (is b)

  module _ (granted : Room (meaning_of D) (table_of D) (asks q) → refusal (meaning_of D) (table_of D) (asks q) ≡ 0)
      (full : (Room (meaning_of D) (table_of D) (asks q) → ⊥) → refusal (meaning_of D) (table_of D) (asks q) ≡ 14) where
    -- what is made is what was asked
    single_did : {D' : Diagrams} (r : Result Edge Refusal) → MakesNode D x ns r D' → Did D (asks q) (answer_of r) D'
    single_did {D'} (Ok e) g =
        let gains = single_gains D' {e = arrow e} g.makes in
        let count = gains_count (laws D) (shape_laws D) (reduced_of D) (asked (meaning_of D) (table_of D) q) gains in
        let few = subst (λ (c : Card). population (nodes_of D') ≤ c.capacity) g.grown.card (held_few D') in
        did_gain D q g.grown.chart g.grown.card (granted (omega arith)) gains
    single_did {D'} (Err k) g =
        let wanted : Wanted (meaning_of D) (shape_of D.card) (nodes_of D) (asked (meaning_of D) (table_of D) q) x (arrows ns) = record {
          variable_within = hx;
          of = single_asks.of;
          below = single_asks.below;
          unlike = g.unlike;
          missing = g.missing;
          inside = inside_same (laws D) (shape_laws D) reads_single
              (inside_lower (laws D) (shape_laws D) (omega arith) (depends_from (get_or D.card.place x 0) (omega arith)) (inside_itself (laws D) (shape_laws D) (asked (meaning_of D) (table_of D) q) ranged));
        } in
        let more = wanted_fits (laws D) (shape_laws D) (asked (meaning_of D) (table_of D) q) (reduced_of D) ranged (depends_from 0 (omega arith)) (reduced_of D)
        (keeps_refl (shape_of D.card) (nodes_of D)) (λ p h new. absurd (new h)) wanted in
        let count = population_is (items D.store) in
        let over = g.full in
        subst₂ (λ (k : Refusal) (D' : Diagrams). Did D (asks q) (answer_of (Err k)) D') (sym g.is) (sym g.same)
        (did_refuse D (asks q) NoRoom (full (λ room. omega arith)))

module _ (D : Diagrams) (q : Query) where
  no_room : (Room (meaning_of D) (table_of D) (asks q) → ⊥) → room_for (meaning_of D) (table_of D) (asks q) ≡ 14
  no_room f =
      unless_no (fits (table_of D) (adding (meaning_of D) (table_of D) (asks q))) NoRoom 0
      (λ t. f (leb→le (population (nodes_of D) + adding (meaning_of D) (table_of D) (asks q)) D.card.capacity t))

-- the function of a variable
module _ (D : Diagrams) (x : ℕ) where
  abbrev wide : ℕ
  wide = unless (leb (get_or D.card.sizes x 0) D.chart.radix) TooWide (room_for (meaning_of D) (table_of D) (asks (variable x)))

  pub variable_unknown : (k : Refusal) → no_variable D.card x ≡ number k → Did D (asks (variable x)) (answer_of (Err k)) D
  variable_unknown k refused = did_refuse D (asks (variable x)) k (stops (ltb x D.card.n) NoVariable k wide refused)

  module _ (known : no_variable D.card x ≡ 0) {size : ℕ} (is : size ≡ get_or D.card.sizes x 0) where
    there : T (ltb x D.card.n)
    there = (passed_one (ltb x D.card.n) NoVariable 0 known).0

    past : refusal (meaning_of D) (table_of D) (asks (variable x)) ≡ wide
    past = unless_yes (ltb x D.card.n) NoVariable wide there

    pub variable_large : D.chart.radix < size → Did D (asks (variable x)) (answer_of (Err TooWide)) D
    variable_large h =
        did_refuse D (asks (variable x)) TooWide
        (past ∙ unless_no (leb (get_or D.card.sizes x 0) D.chart.radix) TooWide (room_for (meaning_of D) (table_of D) (asks (variable x)))
        (λ t. let l = leb→le (get_or D.card.sizes x 0) D.chart.radix t in omega arith))

    module _ (small : size ≤ D.chart.radix) {ns : List Edge} (filled : Filled (constant_edge (meaning_of D)) size ns) where
      variable_row : Filled (constant_edge (meaning_of D)) (get_or D.card.sizes x 0) ns
      variable_row = subst (λ (n : ℕ). Filled (constant_edge (meaning_of D)) n ns) is filled

      pub variable_asks : Asks (meaning_of D) (shape_of D.card) (nodes_of D) x (arrows ns)
      variable_asks = single_asks D (variable x) x (ltb→lt x D.card.n there) (λ i. i) (λ i h. omega arith) (λ a. refl) ns variable_row

      pub variable_did : {D' : Diagrams} (r : Result Edge Refusal) → MakesNode D x ns r D' → Did D (asks (variable x)) (answer_of r) D'
      variable_did =
          single_did D (variable x) x (ltb→lt x D.card.n there) (λ i. i) (λ i h. omega arith) (λ a. refl) ns variable_row
          (λ room. granted_from (meaning_of D) (table_of D) (asks (variable x)) (ltb→lt x D.card.n there, omega arith, room))
          (λ full. past ∙ unless_yes (leb (get_or D.card.sizes x 0) D.chart.radix) TooWide (room_for (meaning_of D) (table_of D) (asks (variable x))) (le→leb (get_or D.card.sizes x 0) D.chart.radix (omega arith))
          ∙ no_room D (variable x) full)

-- a literal
module _ (D : Diagrams) (x v : ℕ) where
  abbrev chosen : ℕ → ℕ
  chosen i = cond (eqb i v) (D.chart.radix - 1) 0

  pub literal_unfit : (k : Refusal) → no_value D.card x v ≡ number k → Did D (asks (literal x v)) (answer_of (Err k)) D
  literal_unfit k refused =
      did_refuse D (asks (literal x v)) k
      (stops_at_two (ltb x D.card.n) (ltb v (get_or D.card.sizes x 0)) NoVariable NoValue k (room_for (meaning_of D) (table_of D) (asks (literal x v))) refused)

  chosen_low : (i : ℕ) → i < get_or D.card.sizes x 0 → chosen i < D.chart.radix
  chosen_low i h = let two = (laws D).radix_low in cond_cases (eqb i v) (D.chart.radix - 1) 0 (λ w. w < D.chart.radix) (λ _. omega arith) (λ _. omega arith)

  module _ (known : no_value D.card x v ≡ 0) {size : ℕ} (is : size ≡ get_or D.card.sizes x 0) where
    module _ {ns : List Edge} (filled : Filled (λ i. constant_edge (meaning_of D) (cond (eqb i v) (D.chart.radix - 1) 0)) size ns) where
      literal_row : Filled (λ i. constant_edge (meaning_of D) (cond (eqb i v) (D.chart.radix - 1) 0)) (get_or D.card.sizes x 0) ns
      literal_row = subst (λ (n : ℕ). Filled (λ i. constant_edge (meaning_of D) (cond (eqb i v) (D.chart.radix - 1) 0)) n ns) is filled

      pub literal_asks : Asks (meaning_of D) (shape_of D.card) (nodes_of D) x (arrows ns)
      literal_asks = single_asks D (literal x v) x (value_there D.card x v known).0 chosen chosen_low (λ a. refl) ns literal_row

      pub literal_did : {D' : Diagrams} (r : Result Edge Refusal) → MakesNode D x ns r D' → Did D (asks (literal x v)) (answer_of r) D'
      literal_did =
          let there = value_there D.card x v known in
          single_did D (literal x v) x there.0 chosen chosen_low (λ a. refl) ns literal_row
          (λ room. granted_from (meaning_of D) (table_of D) (asks (literal x v)) (there.0, there.1, room))
          (λ full. value_past D.card x v known (room_for (meaning_of D) (table_of D) (asks (literal x v))) ∙ no_room D (literal x v) full)
