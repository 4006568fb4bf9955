use Rattle.std.proofs.Common.{mod-eq_of_lt, arith}
use native.Mathlib.Nat.{mod_self}
use Rattle.operations.proofs.cyclic_sum.SumModuloRule.decided.Goals as goal

-- 0 and 1 on the right give two sums
pub returns : goal.returns
returns c = (c.requires, λ v all. grind (arith, mod-eq_of_lt, mod_self, all 0 (omega arith), all 1 (omega arith)))
