use Rattle.std.proofs.Common.{rules, ◌/◌, ◌%◌, sym, subst, arith}
use Rattle.mvl.specs.Labels.{Laws, product, inverse, home, home_label}
use Rattle.mvl.specs.Answers.{Carries, Multiplies, Inverts, HomeIs, Homes}
use Rattle.mvl.specs.Clip.{clip_laws}
use Rattle.mvl.specs.Rows.{Line, Grid, Answered}
use Rattle.mvl.proofs.Labels.Filled.{carries_told, products_told, inverses_told, homes_told, home_labels_told}
use Rattle.mvl.proofs.chart.Chart.of.Goals as goal

pub returns : goal.returns
returns g c =
    let m = g.L.Labelling.meaning c.args.l.now in
    let told : Answered 16 (λ x r. Carries m (x / 4) (x % 4) r) c.row.result = λ x h. let k = c.row.ensures x h in search rules in
    carries_told (g.met.L.Labelling.lawful c.args.l.now) c.row.result c.radix.ensures c.labels.ensures told

pub invariant_of-result : goal.invariant_of-result
invariant_of-result g c =
    let m = g.L.Labelling.meaning c.args.l.now in
    let l = g.met.L.Labelling.lawful c.args.l.now in
    let told : Answered 16 (λ x r. Carries m (x / 4) (x % 4) r) c.row.result = λ x h. let k = c.row.ensures x h in search rules in
    let is = carries_told l c.row.result c.radix.ensures c.labels.ensures told in
    let products : Answered 16 (λ x r. Multiplies m (x / 4) (x % 4) r) c.row-2.result = λ x h. let k = c.row-2.ensures x h in search rules in
    let inverses : Answered 4 (λ x r. Inverts m x r) c.row-3.result = λ x h. let k = c.row-3.ensures x h in search rules in
    let homes : Answered 4 (λ x r. HomeIs m x r) c.row-4.result = λ x h. let k = c.row-4.ensures x h in search rules in
    let home_labels : Answered 4 (λ x r. Homes m x r) c.row-5.result = λ x h. let k = c.row-5.ensures x h in search rules in
    record {
      small = omega (arith, l.radix_high);
      few = omega (arith, l.labels_high);
      lawful = ∣ subst Laws (sym is) (clip_laws l) ∣₁;
      products_told = subst (λ n. Grid n.labels n.labels (product n) c.row-2.result) (sym is) (products_told l c.row-2.result products);
      inverses_told = subst (λ n. Line n.labels (inverse n) c.row-3.result) (sym is) (inverses_told l c.row-3.result inverses);
      homes_told = subst (λ n. Line n.radix (home n) c.row-4.result) (sym is) (homes_told l c.row-4.result homes);
      home_labels_told = subst (λ n. Line n.radix (home_label n) c.row-5.result) (sym is) (home_labels_told l c.row-5.result home_labels);
    }
