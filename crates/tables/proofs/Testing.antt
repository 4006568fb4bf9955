-- A variable and a value of it that were tested. Assumes nothing.
use Rattle.std.proofs.Common.{◌≡◌, ℕ, ◌<◌, T, ltb, get_or, ◌∙◌, ltb→lt}
use Rattle.mvl.specs.declared.refusal.Refusal.TheVariants.{NoVariable, NoValue}
use Rattle.diagrams.specs.Refusals.{unless}
use Rattle.tables.specs.declared.parts.card.Card.{Card}
use Rattle.tables.specs.Tested.{no_value}
use Rattle.tables.proofs.Refused.{unless_yes, passed_two}

module _ (c : Card) (x v : ℕ) (known : no_value c x v ≡ 0) where
  tests : T (ltb x c.n) × T (ltb v (get_or c.sizes x 0))
  tests = passed_two (ltb x c.n) (ltb v (get_or c.sizes x 0)) NoVariable NoValue known

  pub value_there : (x < c.n) × (v < get_or c.sizes x 0)
  value_there = (ltb→lt x c.n tests.0, ltb→lt v (get_or c.sizes x 0) tests.1)

  -- what else a call tests decides
  pub value_past : (rest : ℕ) → unless (ltb x c.n) NoVariable (unless (ltb v (get_or c.sizes x 0)) NoValue rest) ≡ rest
  value_past rest = unless_yes (ltb x c.n) NoVariable _ tests.0 ∙ unless_yes (ltb v (get_or c.sizes x 0)) NoValue rest tests.1
