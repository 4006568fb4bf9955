-- What a call does to the diagrams of a table. Assumes nothing.
use Rattle.std.specs.Prelude.{◌≡◌, Ok, Err, Result}
use Rattle.mvl.specs.declared.refusal.Refusal.{Refusal}
use Rattle.mvl.specs.declared.chart.Chart.{Chart}
use Rattle.mvl.specs.Numbers.{number}
use Rattle.mvl.specs.Labels.{Meaning}
use Rattle.mvl.specs.Charts.{chart_meaning}
use Rattle.diagrams.specs.Diagram.{Nodes}
use Rattle.diagrams.specs.Calls.{Table, Call, Empty}
use Rattle.diagrams.specs.Runs.{Answer, edge, refused, Step}
use Rattle.tables.specs.declared.parts.edge.Edge.{Edge}
use Rattle.tables.specs.declared.parts.card.Card.{Card}
use Rattle.tables.specs.declared.parts.holding.Diagrams.{Diagrams}
use Rattle.tables.specs.Edges.{arrow}
use Rattle.tables.specs.Records.{nodes_in}
use Rattle.tables.specs.Cards.{shape_of, capacity_of}
use Rattle.tables.specs.Stores.{items}

-- the views of a table
abbrev pub meaning_of : Diagrams → Meaning
meaning_of d = chart_meaning d.chart

abbrev pub nodes_of : Diagrams → Nodes
nodes_of d = nodes_in (items d.store)

abbrev pub table_of : Diagrams → Table
table_of d = record { shape = shape_of d.card; nodes = nodes_of d; capacity = capacity_of d.card }

-- what a call answered
abbrev pub answer_of : Result Edge Refusal → Answer
answer_of (Ok e) = edge (arrow e)
answer_of (Err r) = refused (number r)

-- one call that answers an edge: a step of the theory, and the chart and the card stay
pub record Did (before : Diagrams) (c : Call) (r : Answer) (after : Diagrams) : Type 0 where
  pub chart : after.chart ≡ before.chart
  pub card : after.card ≡ before.card
  pub step : Step (meaning_of before) (table_of before) c r (table_of after)

-- a table of a card, with no node
pub record Fresh (card : Card) (d : Diagrams) : Type 0 where
  pub card_is : d.card ≡ card
  pub empty : Empty (table_of d)

pub record Opens (chart : Chart) (card : Card) (d : Diagrams) : Type 0 where
  pub chart_is : d.chart ≡ chart
  pub fresh : Fresh card d
