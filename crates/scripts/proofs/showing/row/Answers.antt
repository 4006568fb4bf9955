use Rattle.std.proofs.Common.{◌≡◌, ℕ, Result, slice_index, [], ◌∷◌, subst, rules}
use Rattle.mvl.specs.declared.refusal.Refusal.{Refusal}
use Rattle.std.specs.Result.{result_unwrap_or}
use Rattle.scripts.proofs.Grids.{mapped, numbered}
use Rattle.scripts.proofs.showing.row.Goals as goal

pub returns : goal.returns
returns g c =
    let Cell : ℕ → ℕ → Type 0 = λ b cell. (r : Result ℕ Refusal) × goal.F-post g c.args.ask.now c.args.a b r × (cell ≡ result_unwrap_or r 0) in
    λ b h. subst (λ (x : ℕ). Cell x (slice_index c.map.result b)) (numbered b h)
    (mapped Cell {xs = 0 ∷ 1 ∷ 2 ∷ 3 ∷ []} {n = 4} c.map.ensures.items (λ x y q k. search rules) b h 0 0)
