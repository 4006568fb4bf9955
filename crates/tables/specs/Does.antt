-- What a call does to a table. Assumes nothing.
use Rattle.std.specs.Prelude.{◌≡◌, Result}
use Rattle.mvl.specs.declared.refusal.Refusal.{Refusal}
use Rattle.diagrams.specs.Calls.{Query, asks}
use Rattle.tables.specs.declared.parts.edge.Edge.{Edge}
use Rattle.tables.specs.declared.calls.table.Table.{Table}
use Rattle.tables.specs.Did.{answer_of, Did}

-- the labelling stays, and what is asked is done to the diagrams
pub record Does {L : Type 0} (before : Table L) (q : Query) (r : Result Edge Refusal) (after : Table L) : Type 0 where
  pub labelling : after.labelling ≡ before.labelling
  pub does : Did before.inner (asks q) (answer_of r) after.inner
