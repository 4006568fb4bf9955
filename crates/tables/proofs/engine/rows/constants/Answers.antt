use Rattle.std.proofs.Common.{rules}
use Rattle.tables.proofs.Filling.{filled_as}
use Rattle.tables.proofs.engine.rows.constants.Goals as goal

pub returns : goal.returns
returns c = filled_as (λ i e h made. search rules) c.filled.ensures
