use Rattle.std.proofs.Common.{sym, ap, ◌∙◌, arith}
use Rattle.mvl.specs.Labels.{product}
use Rattle.tables.specs.Did.{meaning_of}
use Rattle.tables.proofs.Following.{within, visited_low, read_variable, read_value, read_label, read_on, terminal_low, value_there, visited_there, visited_few, follow_start, reached}
use Rattle.tables.proofs.parts.holding.Diagrams.follow.Goals as goal

pub loop-target-init : goal.loop-target-init
loop-target-init c = follow_start c.args.self.now _ _ c.label-label.ensures.value c.target-target.ensures.value c.requires.over

pub carry-value-requires : goal.carry-value-requires
carry-value-requires c =
    let f = reached c.in-Terminal.is c.loop-target.invariant in
    record { label = f.over.label_within; value = terminal_low c.args.self.now c.requires.assigns f }

pub returns-in-Terminal : goal.returns-in-Terminal
returns-in-Terminal c =
    let D = c.args.self.now in
    let f = reached c.in-Terminal.is c.loop-target.invariant in
    record {
      value = c.carry-value.ensures.value ∙ sym (value_there D c.requires.assigns f);
      visited = sym (visited_there D c.requires.assigns f);
      bound = visited_few D c.requires.assigns f;
    }

pub key-key-requires : goal.key-key-requires
key-key-requires c = within c.args.self.now c.requires.assigns (reached c.in-Node.is c.loop-target.invariant)

pub bounds-assignment-key : goal.bounds-assignment-key
bounds-assignment-key c = omega (arith, read_variable c.args.self.now c.requires.assigns (reached c.in-Node.is c.loop-target.invariant) c.key-key.ensures, c.requires.length)

pub bounds-key-value : goal.bounds-key-value
bounds-key-value c = read_value c.args.self.now c.requires.assigns (reached c.in-Node.is c.loop-target.invariant) c.key-key.ensures

pub product-label-requires : goal.product-label-requires
product-label-requires c =
    let f = reached c.in-Node.is c.loop-target.invariant in
    let low = read_label c.args.self.now c.requires.assigns f c.key-key.ensures in
    record { first = f.over.label_within; second = omega (arith, low, c.label.ensures.value) }

pub overflow_add-visited : goal.overflow_add-visited
overflow_add-visited c = omega (arith, visited_low c.args.self.now c.requires.assigns (reached c.in-Node.is c.loop-target.invariant), c.args.self.now.card.few)

pub loop-target-smaller : goal.loop-target-smaller
loop-target-smaller c = omega (arith, visited_low c.args.self.now c.requires.assigns (reached c.in-Node.is c.loop-target.invariant))

pub loop-target-preserved : goal.loop-target-preserved
loop-target-preserved c =
    read_on c.args.self.now c.requires.assigns (reached c.in-Node.is c.loop-target.invariant) c.key-key.ensures
    (c.product-label.ensures.value ∙ ap (product (meaning_of c.args.self.now) c.loop-target.label) c.label.ensures.value) c.target-target-in-Node.ensures.value
