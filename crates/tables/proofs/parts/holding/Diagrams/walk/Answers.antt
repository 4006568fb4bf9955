use Rattle.std.proofs.Common.{take, sym, ap, ◌∙◌, subst}
use Rattle.mvl.specs.Charts.{chart_meaning}
use Rattle.tables.specs.Cards.{shape_of}
use Rattle.tables.specs.Stores.{items}
use Rattle.tables.specs.Sounds.{Sound}
use Rattle.tables.specs.Did.{meaning_of}
use Rattle.tables.proofs.Facts.{sound_of}
use Rattle.tables.proofs.Growing.{grown_same}
use Rattle.tables.proofs.Looping.{walks_grown}
use Rattle.tables.proofs.parts.holding.Diagrams.walk.Goals as goal

pub invariant_of-self : goal.invariant_of-self
invariant_of-self g c =
    let D = c.args.self.now in
    let D' = c.try_walk-walked.new.self in
    let grown = walks_grown (g.W.Walk.way c.args.walk.now) c.args.task c.try_walk-walked.result c.try_walk-walked.ensures in
    let back = c.cut.ensures.items ∙ ap (λ n. take n (items D'.store)) c.len-before.ensures ∙ grown.grows in
    let sound = grown_same grown (λ chart card. Sound (chart_meaning chart) (shape_of card) (items D.store)) (sound_of D) in
    record { room = c.cut.ensures.limit ∙ D'.room; sound = ∣ subst (Sound (meaning_of D') (shape_of D'.card)) (sym back) sound ∣₁ }
