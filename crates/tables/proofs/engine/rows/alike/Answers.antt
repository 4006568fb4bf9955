use Rattle.std.proofs.Common.{◌≡◌, ◌≢◌, take, arith, rules}
use Rattle.std.proofs.lemmas.Iterator.{YieldsList-from_slice, cases_from_all}
use borrow.Author.Tests.{tests}
use Rattle.tables.specs.Edges.{word_at}
use Rattle.tables.specs.declared.parts.edge.Edge.{Edge}
use Rattle.tables.proofs.Same.{alikes}
use Rattle.tables.proofs.engine.rows.alike.Goals as goal

pub returns : goal.returns
returns c =
    let first = word_at c.args.edges 0 in
    alikes c.args.edges c.args.size c.all.result (omega arith)
    (cases_from_all _ _ _ (λ (e : Edge). e.word ≡ first) (λ (e : Edge). e.word ≢ first) c.all.ensures.ran (YieldsList-from_slice (take c.args.size c.args.edges) (search rules))
    (λ x q k. search (rules, tests)) (λ x q k. search (rules, tests)))
