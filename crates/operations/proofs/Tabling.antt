-- Where the byte of a pair stands, and what the bytes keep. Assumes nothing.
use Rattle.std.proofs.Common.{◌≡◌, ℕ, ◌*◌, ◌<◌, ◌≤◌, List, length, get_or, sym, ◌∙◌, ⊎_elim, mul-le-mul, arith}
use Rattle.std.proofs.lemmas.List.{get_or_past}
use Rattle.std.proofs.lemmas.Bool.{cases_lt}
use Rattle.operations.specs.Filling.{AllBelow}

-- the radix times either operand is at most 12, so that the byte of a pair is one of the sixteen
pub products_low : (p a b : ℕ) → p ≤ 4 → a < p → b < p → (p * a ≤ 12) × (p * b ≤ 12)
products_low p a b high ha hb = (mul-le-mul {n₂ = 4} {m₂ = 3} high (omega arith), mul-le-mul {n₂ = 4} {m₂ = 3} high (omega arith))

-- there are at most sixteen pairs
pub square_low : (p : ℕ) → p ≤ 4 → p * p ≤ 16
square_low p high = mul-le-mul {n₂ = 4} {m₂ = 4} high high

-- what agrees with the bytes, and is 0 past them, agrees everywhere
pub same_padded : (bytes row : List ℕ) (n : ℕ) → n ≡ length bytes → ((x : ℕ) → x < n → get_or row x 0 ≡ get_or bytes x 0) → ((x : ℕ) → n ≤ x → get_or row x 0 ≡ 0) → (x : ℕ) → get_or row x 0 ≡ get_or bytes x 0
same_padded bytes row n all below past x =
    ⊎_elim (below x) (λ h. past x h ∙ sym (get_or_past bytes x 0 (omega arith))) (cases_lt x n)

-- where all bytes are below the radix, so is every read
pub low_everywhere : (p : ℕ) (bytes : List ℕ) → 0 < p → AllBelow p bytes → (x : ℕ) → get_or bytes x 0 < p
low_everywhere p bytes some low x =
    ⊎_elim (low x) (λ h. omega (arith, get_or_past bytes x 0 h)) (cases_lt x (length bytes))
