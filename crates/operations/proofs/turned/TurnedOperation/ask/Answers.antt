use Rattle.std.proofs.Common.{◌≡◌, true}
use Rattle.mvl.specs.Operations.{turns}
use Rattle.operations.specs.Turnings.{carried_asks}
use Rattle.operations.proofs.turned.TurnedOperation.ask.Goals as goal

-- the operation below is asked for values that it has
pub returns-in_err-v : goal.returns-in_err-v
returns-in_err-v g c =
    let t = c.args.self.now in
    let o = g.O.Operation.meaning t.below in
    let m = g.L.Labelling.meaning t.labelling in
    let turning : turns o m t.left t.right t.answer ≡ true = cc in
    absurd
    (carried_asks o m t.left t.right t.answer (g.met.O.Operation.closed t.below) (g.met.L.Labelling.lawful t.labelling) turning
    c.args.left c.args.right c.in_ok-a.a c.in_ok-b.b c.in_err-v.field-0.0
    c.in_ok-a.ensures c.in_ok-b.ensures c.in_err-v.ensures)
