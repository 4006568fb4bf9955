-- What an operation on two values means, and the operations that are supplied. Assumes nothing.
use Rattle.std.specs.Prelude.{ℕ, ◌+◌, ◌-◌, ◌*◌, ◌%◌, ◌<◌, ◌≤◌, min, max, Bool, cond, not, ◌&&◌, List, ◌==◌, nat_lt, slice_index}
use Rattle.mvl.specs.Labels.{Meaning}

-- the radix, and the answer for each ordered pair of values
pub record Binary : Type 0 where
  pub radix : ℕ
  pub answer : ℕ → ℕ → ℕ

-- the radix is 2 to 4, and every answer is below it
pub record Closed (o : Binary) : Type 0 where
  pub radix_low : 2 ≤ o.radix
  pub radix_high : o.radix ≤ 4
  pub within : (a b : ℕ) → a < o.radix → b < o.radix → o.answer a b < o.radix

-- the smaller and the larger of two values
abbrev pub minimum : ℕ → Binary
minimum p = record { radix = p; answer = λ a b. min a b }

abbrev pub maximum : ℕ → Binary
maximum p = record { radix = p; answer = λ a b. max a b }

-- the sum modulo the radix, and the sum that stops at the largest value
abbrev pub cyclic_sum : ℕ → Binary
cyclic_sum p = record { radix = p; answer = λ a b. (a + b) % p }

abbrev pub truncated_sum : ℕ → Binary
truncated_sum p = record { radix = p; answer = λ a b. min (a + b) (p - 1) }

-- the answers in a list, that of pair (a, b) at p * a + b
abbrev pub tabled : ℕ → List ℕ → Binary
tabled p bytes = record { radix = p; answer = λ a b. slice_index bytes (p * a + b) }

-- whether there is something to turn, and o and m go together: some label is not 0, all are labels of m, and the radices are the same
abbrev pub turns : Binary → Meaning → ℕ → ℕ → ℕ → Bool
turns o m i j k =
    not (i == 0 && (j == 0 && k == 0)) && ((nat_lt i m.labels && (nat_lt j m.labels && nat_lt k m.labels)) && o.radix == m.radix)

-- o turned by labels of m: the operands are carried by i and j, o is asked, and its answer is carried by k; where nothing turns, o answers alone
abbrev pub turned : Binary → Meaning → ℕ → ℕ → ℕ → Binary
turned o m i j k = record {
  radix = o.radix;
  answer = λ a b. cond (turns o m i j k) (m.carry k (o.answer (m.carry i a) (m.carry j b))) (o.answer a b);
}
