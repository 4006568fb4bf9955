-- The supplied labellings pass the test, and so keep the laws. Assumes nothing.
use Rattle.std.specs.Prelude.{◌≡◌, ℕ, ◌%◌, ◌≤◌, ◌⊎◌, refl}
use Rattle.std.proofs.Common.{⊎_elim, arith, lit<}
use Rattle.mvl.specs.Labels.{Laws}
use Rattle.mvl.specs.Labellings.{plain, complement, cyclic}
use Rattle.mvl.specs.Lawful.{lawful_laws, each_lawful, even_lawful}

-- the labellings that are supplied
pub plain_laws : (p : ℕ) → 2 ≤ p → p ≤ 4 → Laws (plain p)
plain_laws = each_lawful plain tt tt tt

pub cyclic_laws : (p : ℕ) → 2 ≤ p → p ≤ 4 → Laws (cyclic p)
cyclic_laws = each_lawful cyclic tt tt tt

pub complement_laws : (p : ℕ) → (p ≡ 2) ⊎ (p ≡ 4) → Laws (complement p)
complement_laws p = ⊎_elim (λ e. rw e (lawful_laws (complement 2) tt)) (λ e. rw e (lawful_laws (complement 4) tt))

-- a small radix that 2 divides is 2 or 4
pub even_laws : (p : ℕ) → 2 ≤ p → p ≤ 4 → p % 2 ≡ 0 → Laws (complement p)
even_laws = even_lawful complement tt tt

-- no other radix will do
pub complement_three : Laws (complement 3) → ⊥
complement_three l = let e = l.free 0 1 1 l.labels_low (lit< tt) (lit< tt) refl in omega arith
