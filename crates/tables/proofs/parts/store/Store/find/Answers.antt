use Rattle.std.proofs.Common.{subst, rules}
use Rattle.tables.specs.declared.parts.node.Node.{Node}
use Rattle.tables.specs.Records.{SameKey}
use Rattle.tables.proofs.Same.{same_key, other_key}
use Rattle.tables.proofs.Looking.{left_start, before, left_less, left_more}
use Rattle.tables.proofs.parts.store.Store.find.Goals as goal

pub loop-r-init : goal.loop-r-init
loop-r-init c = left_start c.args.self.now.chained c.args.key c.hash.ensures.value c.hash.ensures.bound

pub read-node-requires : goal.read-node-requires
read-node-requires c = before c.args.self.now.chained c.args.key c.in-Some.r c.in-Some.ensures c.loop-r.invariant

pub loop-r-smaller : goal.loop-r-smaller
loop-r-smaller c = left_less c.args.self.now.chained c.args.key c.in-Some.r c.in-Some.ensures c.loop-r.invariant c.read-node.ensures

pub loop-r-preserved : goal.loop-r-preserved
loop-r-preserved c =
    left_more c.args.self.now.chained c.args.key c.in-Some.r c.in-Some.ensures c.loop-r.invariant c.read-node.ensures (other_key (search rules) (search rules) c.if-eq.ensures)

pub returns-then-eq : goal.returns-then-eq
returns-then-eq c = (
  before c.args.self.now.chained c.args.key c.in-Some.r c.in-Some.ensures c.loop-r.invariant,
  subst (λ (n : Node). SameKey n.key c.args.key) c.read-node.ensures (same_key c.if-eq.ensures),
)
