use Rattle.std.proofs.Common.{◌≡◌, length, arith, rules}
use Rattle.diagrams.specs.Shape.{Assignment}
use Rattle.tables.specs.Edges.{arrow}
use Rattle.tables.specs.Cards.{shape_of}
use Rattle.tables.specs.Evaluates.{assigned}
use Rattle.tables.specs.Did.{meaning_of, table_of}
use Rattle.tables.proofs.Unreadable.{strange, wrong_length, too_large, readable}
use Rattle.tables.proofs.parts.holding.Diagrams.evaluate.Goals as goal

pub returns-in_err-known : goal.returns-in_err-known
returns-in_err-known c =
    let D = c.args.self.now in
    search (rules, strange (meaning_of D) (table_of D) (arrow c.args.e) c.args.assignment.now c.in_err-known.ensures.0)

pub returns-then-assignment-self : goal.returns-then-assignment-self
returns-then-assignment-self c =
    let D = c.args.self.now in
    wrong_length (meaning_of D) (table_of D) (arrow c.args.e) c.args.assignment.now c.in_ok-known.ensures (λ e. omega arith)

pub returns-then-not-allows : goal.returns-then-not-allows
returns-then-not-allows c =
    let D = c.args.self.now in
    let large = c.if-not-allows.ensures in
    too_large (meaning_of D) (table_of D) (arrow c.args.e) c.args.assignment.now c.in_ok-known.ensures (omega arith) large.0 (omega arith) large.2

pub returns : goal.returns
returns c =
    let D = c.args.self.now in
    let long : length c.args.assignment.now ≡ D.card.n = omega arith in
    let all : Assignment (shape_of D.card) (assigned c.args.assignment.now) = λ x h. c.if-not-allows.ensures x (omega arith) in
    record {
      granted = readable (meaning_of D) (table_of D) (arrow c.args.e) c.args.assignment.now c.in_ok-known.ensures long all;
      value_is = c.follow.ensures.value;
      visited_are = c.follow.ensures.visited;
      few = c.follow.ensures.bound;
    }
