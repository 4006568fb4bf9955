use Rattle.std.proofs.Common.{◌≡◌, ◌∙◌, ◌≤◌, Ok, ap, arith, rules}
use Rattle.std.specs.Result.{result_unwrap_or}
use Rattle.scripts.specs.Meanings.{chosen_meaning}
use Rattle.scripts.specs.Lawful.{chosen_closed}
use Rattle.scripts.proofs.showing.answers.Goals as goal

pub returns : goal.returns
returns c =
    let o = c.args.operation.now in
    let few : (chosen_meaning o).radix ≤ 4 = (chosen_closed o).radix_high in (
      search rules,
      search rules,
      λ a left b right.
          let cell = c.grid.ensures.cells a (omega (arith, few, left)) b (omega (arith, few, right)) in
          let answered : cell.0 ≡ Ok ((chosen_meaning o).answer a b) = search (rules, cell.1, left, right) in
          cell.2 ∙ ap (λ r. result_unwrap_or r 0) answered,
    )
