-- A table on the way to the diagram of F: every node that was added is a part of F. Assumes nothing.
use Rattle.std.proofs.Common.{◌≡◌, ℕ, ◌≤◌, T, sym, refl, ap, ◌∙◌, subst}
use Rattle.mvl.specs.Labels.{Meaning, Laws}
use Rattle.diagrams.specs.Shape.{Shape, ShapeLaws}
use Rattle.diagrams.specs.Functions.{Function, Agree, Inside}
use Rattle.diagrams.specs.Diagram.{Target, node, Edge, Nodes, Has, reads, value, level, Of, Reduced, reaches, Part}
use Rattle.diagrams.specs.Make.{Keeps, Makes}
use Rattle.diagrams.specs.Build.{Gains, Parts}
use Rattle.mvl.specs.Action.{zero_label_within}
use Rattle.diagrams.proofs.Reading.Values.{reads_within, reads_local}
use Rattle.diagrams.proofs.Least.Inside.{inside_turned, inside_lower}
use Rattle.diagrams.proofs.Least.Landing.{StandsFor, part_lands, lands_apart}
use Rattle.diagrams.proofs.Build.Keep.{keeps_refl, keeps_trans}
use Rattle.diagrams.proofs.Build.Want.{parts_trans}

-- d is d₀ with some of the nodes that it lacks of F
pub record Growing (m : Meaning) (s : Shape) (d₀ : Nodes) (F : Function) (d : Nodes) : Type 0 where
  pub reduced : Reduced m s d
  pub keeps : Keeps s d₀ d
  pub parts : Parts m s d₀ F d

-- at first with none
pub grows_from : {m : Meaning} {s : Shape} {d₀ : Nodes} (F : Function) → Reduced m s d₀ → Growing m s d₀ F d₀
grows_from {s = s} {d₀ = d₀} F red = record { reduced = red; keeps = keeps_refl s d₀; parts = λ q h new. absurd (new h) }

module _ {m : Meaning} (l : Laws m) {s : Shape} (sl : ShapeLaws s) {d₀ : Nodes} {F : Function} {d : Nodes} (grown : Growing m s d₀ F d) where
  -- every part of F is reached from an edge for F
  part_reached : {e : Edge} → Of m d e → Agree s (value m s d e) F → (q : ℕ) → Has d q → Part m s d F q → T (reaches s d s.count e.target q)
  part_reached {e} of agree q h part =
      let red = grown.reduced in
      let land = part_lands l sl red red.ordered h part of.over agree in
      let r = land.0 in
      let itself : StandsFor m s d d r r = record { has = land.2.has; variable = refl; label = 0; label_within = zero_label_within l; same = λ a g. refl } in
      let same : q ≡ r = lands_apart l sl red red.ordered h land.2.has land.2 itself in
      subst (λ p. T (reaches s d s.count e.target p)) (sym same) land.1

  -- the table has gained the diagram of F once it has an edge for F
  pub grown_gains : {e : Edge} → Of m d e → Agree s (value m s d e) F → Gains m s d₀ F d e
  grown_gains of agree = record {
    reduced = grown.reduced;
    keeps = grown.keeps;
    of = of;
    function = agree;
    lacked = λ q h new. part_reached of agree q h (grown.parts q h new);
  }

  -- a node is made for a function that is inside F
  module _ {x : ℕ} {es : ℕ → Edge} {d' : Nodes} {e : Edge} (makes : Makes m s d x es d' e) (inside : Inside m s (s.place x) (λ a. value m s d (es (a x)) a) F) where
    made_part : Parts m s d F d'
    made_part q h new =
        let target = makes.lacked q h new in
        let o = makes.reduced.ordered in
        let low : s.place x ≤ level s d' (node q) = subst (λ t. s.place x ≤ level s d' t) target makes.high in
        inside_lower l sl low (λ a b ha hb same. reads_local sl o s.count (node q) a b h ha same)
        (inside_turned l sl e.label makes.of.over.label_within (λ a ha. reads_within l sl o s.count (node q) a h ha)
        (λ a ha. ap (λ (t : Target). m.carry e.label (reads m d' s.count t a)) (sym target) ∙ makes.function a ha) inside)

    -- the table grows on
    pub grown_made : Growing m s d₀ F d'
    grown_made = record {
      reduced = makes.reduced;
      keeps = keeps_trans grown.keeps makes.keeps;
      parts = parts_trans l sl F d₀ grown.reduced.ordered makes.keeps grown.parts made_part;
    }
