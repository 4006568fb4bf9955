use Rattle.std.proofs.Common.{refl, rules, arith}
use Rattle.tables.proofs.Looping.{begins, top_task, next_task, fill_again, fill_less, push_room, push_again, push_less, full_asks, full_short, full_gained, below_few, pop_again, pop_less}
use Rattle.tables.proofs.parts.holding.Diagrams.run.Goals as goal

pub loop-self-init : goal.loop-self-init
loop-self-init g c = begins c.args.self.now c.requires.fair _ c.requires.splits c.of-frames.ensures refl

pub child-next-requires-clause-of : goal.child-next-requires-clause-of
child-next-requires-clause-of g c = top_task c.loop-self.self c.loop-self.invariant

pub settle-requires-clause-of : goal.settle-requires-clause-of
settle-requires-clause-of g c = next_task c.loop-self.self c.loop-self.invariant c.if-top-self.true c.child-next.result c.child-next.ensures

pub loop-self-smaller-in-Settled : goal.loop-self-smaller-in-Settled
loop-self-smaller-in-Settled g c =
    fill_less c.loop-self.self c.loop-self.invariant c.if-top-self.true c.child-next.result c.child-next.ensures c.in-Settled.r c.add.ensures c.in-Settled.ensures

pub loop-self-preserved-in-Settled : goal.loop-self-preserved-in-Settled
loop-self-preserved-in-Settled g c =
    fill_again c.loop-self.self c.loop-self.invariant c.if-top-self.true c.child-next.result c.child-next.ensures c.in-Settled.r c.add.ensures c.in-Settled.ensures

pub bounds-frames-k-in-Split : goal.bounds-frames-k-in-Split
bounds-frames-k-in-Split g c =
    omega (arith, push_room c.loop-self.self c.loop-self.invariant c.if-top-self.true c.child-next.result c.child-next.ensures c.in-Split.ensures)

pub loop-self-smaller-in-Split : goal.loop-self-smaller-in-Split
loop-self-smaller-in-Split g c =
    push_less c.loop-self.self c.loop-self.invariant c.if-top-self.true c.child-next.result c.child-next.ensures c.in-Split.ensures c.of.ensures

pub loop-self-preserved-in-Split : goal.loop-self-preserved-in-Split
loop-self-preserved-in-Split g c =
    push_again c.loop-self.self c.loop-self.invariant c.if-top-self.true c.child-next.result c.child-next.ensures c.in-Split.ensures c.of.ensures

pub make-requires : goal.make-requires
make-requires g c = full_asks c.loop-self.self c.loop-self.invariant c.if-top-self.false

pub returns-in_err-made : goal.returns-in_err-made
returns-in_err-made g c = search (rules, full_short c.loop-self.self c.loop-self.invariant c.if-top-self.false c.in_err-made.ensures)

pub returns-then-k-eq0 : goal.returns-then-k-eq0
returns-then-k-eq0 g c = full_gained c.loop-self.self c.loop-self.invariant c.if-top-self.false c.in_ok-made.ensures c.if-k-eq0.true

pub add-requires-else-top-self : goal.add-requires-else-top-self
add-requires-else-top-self g c = below_few c.loop-self.self c.loop-self.invariant c.if-top-self.false c.in_ok-made.ensures (omega arith)

pub loop-self-smaller : goal.loop-self-smaller
loop-self-smaller g c =
    pop_less c.loop-self.self c.loop-self.invariant c.if-top-self.false c.in_ok-made.ensures (omega arith) c.add-else-top-self.ensures

pub loop-self-preserved : goal.loop-self-preserved
loop-self-preserved g c =
    pop_again c.loop-self.self c.loop-self.invariant c.if-top-self.false c.in_ok-made.ensures (omega arith) c.add-else-top-self.ensures
