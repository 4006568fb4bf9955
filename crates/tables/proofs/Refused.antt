-- Tests that a call passes or not, and the number with which it is refused. Assumes nothing.
use Rattle.std.proofs.Common.{◌≡◌, ℕ, ◌<◌, Bool, true, false, T, sym, subst, arith}
use Rattle.mvl.specs.declared.refusal.Refusal.{Refusal}
use Rattle.mvl.specs.declared.refusal.Refusal.TheVariants.{Unserved, BadCard, NoEdge, NoVariable, NoValue, NoLabel, WrongLength, WrongRadix, ShortMemory, BrokenImage, TooWide, NoPlace, OtherHeader, NoRoom}
use Rattle.mvl.specs.Numbers.{number}
use Rattle.mvl.specs.Tests.{cond_yes, cond_no}
use Rattle.diagrams.specs.Refusals.{unless}

-- a test that came out false, as the code says it
pub failed : {b : Bool} → false ≡ b → T b → ⊥
failed e t = subst T (sym e) t

pub unless_no : (b : Bool) (k : Refusal) (rest : ℕ) → (T b → ⊥) → unless b k rest ≡ number k
unless_no b k rest f = cond_no b rest (number k) f

pub unless_yes : (b : Bool) (k : Refusal) (rest : ℕ) → T b → unless b k rest ≡ rest
unless_yes b k rest t = cond_yes b rest (number k) t

-- what refuses has a number
pub number_some : (k : Refusal) → 0 < number k
number_some Unserved = omega arith
number_some BadCard = omega arith
number_some NoEdge = omega arith
number_some NoVariable = omega arith
number_some NoValue = omega arith
number_some NoLabel = omega arith
number_some WrongLength = omega arith
number_some WrongRadix = omega arith
number_some ShortMemory = omega arith
number_some BrokenImage = omega arith
number_some TooWide = omega arith
number_some NoPlace = omega arith
number_some OtherHeader = omega arith
number_some NoRoom = omega arith

-- where the first test refuses, or the first two, the others are not looked at
pub stops : (b : Bool) (k j : Refusal) (rest : ℕ) → unless b k 0 ≡ number j → unless b k rest ≡ number j
stops true k j rest e = absurd (omega (arith, number_some j))
stops false k j rest e = e

pub stops_at_two : (a b : Bool) (k l j : Refusal) (rest : ℕ) → unless a k (unless b l 0) ≡ number j → unless a k (unless b l rest) ≡ number j
stops_at_two true b k l j rest e = stops b l j rest e
stops_at_two false b k l j rest e = e

-- where they refuse nothing, they passed
pub passed_one : (b : Bool) (k : Refusal) (rest : ℕ) → unless b k rest ≡ 0 → T b × (rest ≡ 0)
passed_one true k rest e = (tt, e)
passed_one false k rest e = absurd (omega (arith, number_some k))

pub passed_two : (a b : Bool) (k l : Refusal) → unless a k (unless b l 0) ≡ 0 → T a × T b
passed_two a b k l e = let p = passed_one a k (unless b l 0) e in (p.0, (passed_one b l 0 p.1).0)
