use Rattle.std.proofs.Common.{◌≡◌, None, vec_items, arith}
use Rattle.scripts.proofs.Played.{advance_some, advance_none}
use Rattle.scripts.proofs.playing.add.Goals as goal

pub returns : goal.returns
returns c =
    advance_some c.args.line c.args.session.now c.step.new.session (vec_items c.args.entries.now) (vec_items c.push.new.self)
    c.in_ok-entry.field-0 c.in-Some.entry c.in_ok-entry.ensures c.in-Some.is c.in_ok-push.ensures.items

pub returns-in_default : goal.returns-in_default
returns-in_default c =
    let none : c.in_ok-entry.field-0 ≡ None = grind arith in
    advance_none c.args.line c.args.session.now c.step.new.session (vec_items c.args.entries.now)
    c.in_ok-entry.field-0 c.in_ok-entry.ensures none
