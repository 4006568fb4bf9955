use Rattle.std.proofs.Common.{vec_items}
use Rattle.std.specs.Iterator.Adapters.{enumerate_count}
use Rattle.scripts.specs.Obeys.{nothing_chosen}
use Rattle.scripts.specs.Plays.{Played}
use Rattle.scripts.proofs.playing.run.Given as goal

abbrev pub invariant-loop-i : goal.invariant-loop-i
invariant-loop-i l =
    (goal.iterator-loop-i).can_next l.i-iterator × (goal.iterator-loop-i).is_finite l.i-iterator
    × Played nothing_chosen 0 (vec_items l.entries) l.session (enumerate_count l.i-iterator)
