use Rattle.std.proofs.Common.{◌≡◌, Result, rules, refl, arith}
use Rattle.std.specs.Result.{result_unwrap_or}
use Rattle.mvl.proofs.Labels.Filled.{made_at}
use Rattle.mvl.proofs.rows.row.Goals as goal

pub returns : goal.returns
returns g c = λ x h.
    made_at _
    (λ p. p.0.now ≡ c.args.ask)
    (λ i y. (r : Result _ _) × g.F.Fn.post c.args.ask (i, tt) r × (y ≡ result_unwrap_or r 0))
    (λ p q i y k call. search rules)
    _ _ c.from_fn.result 0 refl c.from_fn.ensures.items.each x 0 (omega arith) (omega arith)
