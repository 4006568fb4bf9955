use Rattle.tables.proofs.Opening.{empty_chained}
use Rattle.tables.proofs.parts.store.Store.open.Goals as goal

pub invariant_of-result-clause-chained : goal.invariant_of-result-clause-chained
invariant_of-result-clause-chained c = empty_chained c.in_ok-nodes.ensures.items
