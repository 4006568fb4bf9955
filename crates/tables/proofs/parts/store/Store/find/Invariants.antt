use Rattle.tables.specs.Stores.{items}
use Rattle.tables.proofs.Looking.{Left}
use Rattle.tables.proofs.parts.store.Store.find.Given as goal

abbrev pub invariant-loop-r : goal.invariant-loop-r
invariant-loop-r l = Left (items l.self) l.key l.link.to

abbrev pub decreases-loop-r : goal.decreases-loop-r
decreases-loop-r l = l.link.to
