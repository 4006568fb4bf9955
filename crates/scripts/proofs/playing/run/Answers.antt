use Rattle.std.proofs.Common.{◌≡◌, Ok, vec_items, arith, rules}
use Rattle.std.specs.Iterator.Adapters.{enumerate_count}
use Rattle.scripts.proofs.Played.{advanced}
use Rattle.scripts.proofs.playing.run.Goals as goal

pub loop-i-preserved : goal.loop-i-preserved
loop-i-preserved c =
    let turn = c.in-Some.ensures in
    let done : c.advance.result ≡ Ok tt = grind arith in (
      search rules,
      tt,
      advanced _ (enumerate_count c.loop-i.i-iterator) (enumerate_count c.next.new.self)
          c.loop-i.session c.advance.new.session (vec_items c.loop-i.entries) (vec_items c.advance.new.entries)
          c.advance.result c.advance.ensures done (omega (arith, turn.steps.1)) (omega (arith, turn.steps.1, turn.steps.2)) c.loop-i.invariant.2,
    )
