use Rattle.std.proofs.Common.{ℕ, List, slice_index_or, [], ◌∷◌, subst, rules}
use Rattle.scripts.specs.Shown.{Answered}
use Rattle.scripts.proofs.Grids.{mapped, numbered}
use Rattle.scripts.proofs.showing.grid.Goals as goal

pub returns-clause-cells : goal.returns-clause-cells
returns-clause-cells g c =
    let Row : ℕ → List ℕ → Type 0 = λ a cells. Answered (goal.F-post g c.args.ask a) cells in
    λ a h. subst (λ (x : ℕ). Row x (slice_index_or c.map-cells.result a [])) (numbered a h)
    (mapped Row {xs = 0 ∷ 1 ∷ 2 ∷ 3 ∷ []} {n = 4} c.map-cells.ensures.items (λ x y q k. search rules) a h 0 [])
