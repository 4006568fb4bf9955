-- One more entry at the end. Assumes nothing.
use Rattle.std.proofs.Common.{◌≡◌, ℕ, ◌<◌, ◌≤◌, List, [], ◌∷◌, ◌++◌, Some, None, Ok, Option, Result, sym, refl, subst, arith}
use Rattle.scripts.specs.declared.session.Session.{Session}
use Rattle.scripts.specs.declared.entry.Entry.{Entry}
use Rattle.scripts.specs.declared.entry.Failure.{Failure}
use Rattle.scripts.specs.Obeys.{Obeys, nothing_chosen}
use Rattle.scripts.specs.Plays.{Played, Steps, Advances}

-- more lines may have been read
pub played_on : (s : Session) (m : ℕ) (es : List Entry) (t : Session) (n k : ℕ) → n ≤ k → Played s m es t n → Played s m es t k
played_on s m [] t n k h p = (p.0, omega (arith, p.1))
played_on s m (e ∷ es) t n k h p = (p.0, (p.1.0, p.1.1, played_on p.1.0 e.line es t n k h p.1.2))

-- what is answered next stands at the end
pub played_push : (s : Session) (m : ℕ) (es : List Entry) (t : Session) (n : ℕ) (e : Entry) (u : Session) → n < e.line → Obeys t e.command (Ok e.reply) u → Played s m es t n → Played s m (es ++ e ∷ []) u e.line
played_push s m [] t n e u h o p =
    (omega (arith, p.1), (u, subst (λ (x : Session). Obeys x e.command (Ok e.reply) u) p.0 o, (refl, omega arith)))
played_push s m (d ∷ es) t n e u h o p =
    (p.0, (p.1.0, p.1.1, played_push p.1.0 d.line es t n e u h o p.1.2))

-- a line with an entry, and one without
pub advance_some : (n : ℕ) (t t' : Session) (es es' : List Entry) (o : Option Entry) (e : Entry) → Steps t n (Ok o) t' → o ≡ Some e → es' ≡ es ++ e ∷ [] → Advances n t es (Ok tt) t' es'
advance_some n t t' es es' o e s q i =
    let step = subst (λ (x : Option Entry). Steps t n (Ok x) t') q s in
    λ m h p. subst (λ (xs : List Entry). Played nothing_chosen 0 xs t' n) (sym i)
    (subst (λ (k : ℕ). Played nothing_chosen 0 (es ++ e ∷ []) t' k) step.0 (played_push nothing_chosen 0 es t m e t' (omega (arith, step.0)) step.1 p))

pub advance_none : (n : ℕ) (t t' : Session) (es : List Entry) (o : Option Entry) → Steps t n (Ok o) t' → o ≡ None → Advances n t es (Ok tt) t' es
advance_none n t t' es o s q =
    let step = subst (λ (x : Option Entry). Steps t n (Ok x) t') q s in
    λ m h p. subst (λ (x : Session). Played nothing_chosen 0 es x n) (sym step) (played_on nothing_chosen 0 es t m n (omega arith) p)

-- the next line is done
pub advanced : (line n k : ℕ) (t t' : Session) (es es' : List Entry) (r : Result (Unit {0}) Failure) → Advances line t es r t' es' → r ≡ Ok tt → n < line → line ≡ k → Played nothing_chosen 0 es t n → Played nothing_chosen 0 es' t' k
advanced line n k t t' es es' r a q h e p =
    subst (λ (x : ℕ). Played nothing_chosen 0 es' t' x) e
    (subst (λ (x : Result (Unit {0}) Failure). Advances line t es x t' es') q a n h p)
