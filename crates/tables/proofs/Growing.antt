-- Tables that grew: records were added at the end, and the chart and the card stay. Assumes nothing.
use Rattle.std.proofs.Common.{◌≡◌, ◌≤◌, min, List, length, take, sym, refl, ap, ◌∙◌, subst₂, arith, length-take, take-take}
use lib.Seq.{take-length}
use Rattle.mvl.specs.declared.chart.Chart.{Chart}
use Rattle.tables.specs.declared.parts.node.Node.{Node}
use Rattle.tables.specs.declared.parts.card.Card.{Card}
use Rattle.tables.specs.declared.parts.holding.Diagrams.{Diagrams}
use Rattle.tables.specs.Stores.{items}
use Rattle.tables.specs.Sounds.{Grows}
use Rattle.tables.specs.Makes.{Grown}

-- records that were added at the end
grows_long : (xs ys : List Node) → Grows xs ys → length xs ≤ length ys
grows_long xs ys g = let e : min (length xs) (length ys) ≡ length xs = sym (length-take (length xs) ys) ∙ ap length g in omega arith

grows_trans : (xs ys zs : List Node) → Grows xs ys → Grows ys zs → Grows xs zs
grows_trans xs ys zs g h = sym (take-take (length xs) (length ys) zs (grows_long xs ys g)) ∙ ap (take (length xs)) h ∙ g

-- what is said of a chart and a card is said of those that stayed
pub grown_same : {D D' : Diagrams} → Grown D D' → (P : Chart → Card → Type 0) → P D.chart D.card → P D'.chart D'.card
grown_same grown P p = subst₂ P (sym grown.chart) (sym grown.card) p

pub grown_back : {D D' : Diagrams} → Grown D D' → (P : Chart → Card → Type 0) → P D'.chart D'.card → P D.chart D.card
grown_back grown P p = subst₂ P grown.chart grown.card p

pub grown_refl : (D : Diagrams) → Grown D D
grown_refl D = record { chart = refl; card = refl; grows = take-length (items D.store) }

pub grown_trans : {D D' D'' : Diagrams} → Grown D D' → Grown D' D'' → Grown D D''
grown_trans {D} {D'} {D''} first then = record {
  chart = then.chart ∙ first.chart;
  card = then.card ∙ first.card;
  grows = grows_trans (items D.store) (items D'.store) (items D''.store) first.grows then.grows;
}
