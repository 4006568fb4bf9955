use Rattle.std.proofs.Common.{sym, subst}
use Rattle.mvl.specs.Charts.{chart_meaning}
use Rattle.tables.specs.Cards.{shape_of}
use Rattle.tables.specs.Sounds.{Sound}
use Rattle.tables.proofs.CardFacts.{shape_laws_of}
use Rattle.tables.proofs.Opening.{none_sound}
use Rattle.tables.proofs.parts.holding.Diagrams.open.Goals as goal

pub invariant_of-result : goal.invariant_of-result
invariant_of-result c =
    let o = c.in_ok-store.ensures in
    let m = chart_meaning c.args.chart in
    let shape = shape_of c.args.card in
    record { room = o.limit_is; sound = ∣ subst (Sound m shape) (sym o.items_are) (none_sound m shape (shape_laws_of c.args.card)) ∣₁ }
