use Rattle.std.proofs.Common.{ap, ◌∙◌, rules}
use Rattle.tables.specs.Did.{meaning_of}
use Rattle.tables.proofs.Walking.{node_high, settled_pair}
use Rattle.tables.proofs.engine.applying.ApplyingWalk.settle.Goals as goal

pub returns-in_default : goal.returns-in_default
returns-in_default c =
    let D = c.args.diagrams.now in
    search (rules, node_high D c.args.task.left c.requires.of.left, node_high D c.args.task.right c.requires.of.right)

pub returns : goal.returns
returns c =
    let D = c.args.diagrams.now in
    let both = c.in-Terminal-Terminal in
    settled_pair D c.args.self.now.answers c.args.task c.constant_edge.result c.requires.fair c.requires.of both.ensures.value both.ensures'.value
    (c.carry-a.ensures.value ∙ ap (λ k. (meaning_of D).carry k both.a) c.label.ensures.value)
    (c.carry-b.ensures.value ∙ ap (λ k. (meaning_of D).carry k both.b) c.label-2.ensures.value) c.constant_edge.ensures
