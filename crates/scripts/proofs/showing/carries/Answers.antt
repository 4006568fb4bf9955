use Rattle.std.proofs.Common.{◌≡◌, ◌∙◌, ◌≤◌, Ok, ap, arith, rules}
use Rattle.std.specs.Result.{result_unwrap_or}
use Rattle.scripts.specs.Meanings.{labelling_meaning}
use Rattle.scripts.specs.Lawful.{labelling_laws}
use Rattle.scripts.proofs.showing.carries.Goals as goal

pub returns : goal.returns
returns c =
    let l = c.args.labelling.now in
    let few_labels : (labelling_meaning l).labels ≤ 4 = (labelling_laws l).labels_high in
    let few_values : (labelling_meaning l).radix ≤ 4 = (labelling_laws l).radix_high in (
      search rules,
      search rules,
      λ k label v value.
          let cell = c.grid.ensures.cells k (omega (arith, few_labels, label)) v (omega (arith, few_values, value)) in
          let carried : cell.0 ≡ Ok ((labelling_meaning l).carry k v) = search (rules, cell.1, label, value) in
          cell.2 ∙ ap (λ r. result_unwrap_or r 0) carried,
    )
