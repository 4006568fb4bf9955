-- When nothing can be told from the left operand. Assumes nothing.
use Rattle.std.proofs.Common.{◌≡◌, ℕ, ◌+◌, ◌-◌, ◌%◌, ◌<◌, ◌≤◌, ◌≢◌, sym, ap, ◌∙◌, ⊎_elim, mod-eq_of_lt, arith}
use native.Mathlib.Nat.{mod_self}
use Rattle.std.proofs.lemmas.Bool.{cases_lt}
use Rattle.mvl.specs.Operations.{Binary, minimum, maximum, cyclic_sum, truncated_sum}
use Rattle.mvl.specs.Answers.{Always}

-- two right operands with different answers: none is given by all
pub differ : (o : Binary) (a b c : ℕ) → b < o.radix → c < o.radix → o.answer a b ≢ o.answer a c → (v : ℕ) → Always o a v → ⊥
differ o a b c hb hc unlike v all = unlike (all b hb ∙ sym (all c hc))

pub minimum_differs : (p a : ℕ) → 2 ≤ p → a ≢ 0 → (v : ℕ) → Always (minimum p) a v → ⊥
minimum_differs p a low some = differ (minimum p) a 0 1 (omega arith) (omega arith) (λ e. omega arith)

pub maximum_differs : (p a : ℕ) → a < p → a ≢ p - 1 → (v : ℕ) → Always (maximum p) a v → ⊥
maximum_differs p a within some = differ (maximum p) a 0 (p - 1) (omega arith) (omega arith) (λ e. omega arith)

-- one more is another value, modulo the radix
cyclic_sum_unlike : (p a : ℕ) → 2 ≤ p → a < p → (a + 0) % p ≢ (a + 1) % p
cyclic_sum_unlike p a low within e =
    let here : (a + 0) % p ≡ a + 0 = mod-eq_of_lt (omega arith) in
    ⊎_elim
    (λ (h : a + 1 < p). let there : (a + 1) % p ≡ a + 1 = mod-eq_of_lt h in omega arith)
    (λ (h : p ≤ a + 1).
    let top : a + 1 ≡ p = omega arith in
    let there : (a + 1) % p ≡ 0 = ap (λ (n : ℕ). n % p) top ∙ mod_self p in
    omega arith)
    (cases_lt (a + 1) p)

pub cyclic_sum_differs : (p a : ℕ) → 2 ≤ p → a < p → (v : ℕ) → Always (cyclic_sum p) a v → ⊥
cyclic_sum_differs p a low within = differ (cyclic_sum p) a 0 1 (omega arith) (omega arith) (cyclic_sum_unlike p a low within)

pub truncated_sum_differs : (p a : ℕ) → a < p → a ≢ p - 1 → (v : ℕ) → Always (truncated_sum p) a v → ⊥
truncated_sum_differs p a within some = differ (truncated_sum p) a 0 1 (omega arith) (omega arith) (λ e. omega arith)
