use Rattle.std.proofs.Common.{◌≡◌, ◌≤◌, length, take}
use Rattle.tables.specs.Stores.{items}
use Rattle.tables.proofs.parts.store.Store.cut.Given as goal

abbrev pub invariant-loop-self : goal.invariant-loop-self
invariant-loop-self l =
    (items l.self ≡ take (length (items l.self)) (items l.initial.self))
    × (l.len ≤ length (items l.self))
    × (l.self.limit ≡ l.initial.self.limit)

abbrev pub decreases-loop-self : goal.decreases-loop-self
decreases-loop-self l = length (items l.self)
