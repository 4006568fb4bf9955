use Rattle.std.proofs.Common.{◌≡◌, ◌+◌, length, ◌∙◌, arith, length-set}
use Rattle.tables.specs.Stores.{items}
use Rattle.tables.proofs.Appending.{chained_pushed}
use Rattle.tables.proofs.parts.store.Store.push.Goals as goal

pub invariant_of-self-clause-wide : goal.invariant_of-self-clause-wide
invariant_of-self-clause-wide c = length-set c.args.self.now.heads c.hash-h.result _ ∙ c.args.self.now.wide

pub invariant_of-self-clause-chained : goal.invariant_of-self-clause-chained
invariant_of-self-clause-chained c =
    let S = c.args.self.now in
    let last : c.new.result.to ≡ length (items S) + 1 = omega (arith, c.new.ensures, c.len.ensures, S.nodes.ok.0) in
    chained_pushed S.chained S.wide c.args.key c.hash-h.ensures.value c.hash-h.ensures.bound last c.push_reserved.ensures.items
