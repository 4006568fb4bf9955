use Rattle.std.proofs.Common.{◌-◌, ◌∙◌, arith, length-set}
use Rattle.tables.proofs.Cutting.{chained_popped}
use Rattle.tables.proofs.parts.store.Store.pop.Goals as goal

pub invariant_of-self-clause-wide : goal.invariant_of-self-clause-wide
invariant_of-self-clause-wide c = length-set c.args.self.now.heads c.hash-h.result _ ∙ c.args.self.now.wide

pub invariant_of-self-clause-chained : goal.invariant_of-self-clause-chained
invariant_of-self-clause-chained c =
    let S = c.args.self.now in
    chained_popped S.chained S.wide (c.len-r.result - 1) (omega arith) c.read-node.ensures c.hash-h.ensures.value c.hash-h.ensures.bound c.truncate.ensures.items
