use Rattle.std.proofs.Common.{◌≡◌, length}
use Rattle.tables.specs.Finds.{FilledBy}
use Rattle.tables.proofs.engine.rows.filled.Given as goal

abbrev pub invariant-loop-i : goal.invariant-loop-i
invariant-loop-i g l = (length l.row ≡ 4) × FilledBy (goal.F-post g l.edge) l.i l.row
