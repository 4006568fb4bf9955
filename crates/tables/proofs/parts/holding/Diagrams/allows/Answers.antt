use Rattle.std.proofs.Common.{ℕ, ◌<◌, ◌≤◌, take, arith, rules}
use Rattle.std.proofs.lemmas.Iterator.{YieldsList-from_slice, YieldsList-from_zip, cases_from_all}
use borrow.Author.Tests.{tests}
use Rattle.tables.proofs.Unreadable.{tested_all}
use Rattle.tables.proofs.parts.holding.Diagrams.allows.Goals as goal

pub returns : goal.returns
returns c =
    let card = c.args.self.now.card in
    let xs = c.args.assignment.now in
    tested_all card xs c.requires (omega (arith, card.few)) c.all.result
    (cases_from_all c.all.new.self _ _ (λ (p : ℕ × ℕ). p.0 < p.1) (λ (p : ℕ × ℕ). p.1 ≤ p.0) c.all.ensures.ran
    (YieldsList-from_zip (YieldsList-from_slice xs (search rules)) (YieldsList-from_slice (take card.n card.sizes) (search rules)))
    (λ x q k. search (rules, tests)) (λ x q k. search (rules, tests)))
