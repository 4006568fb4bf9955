-- An array that `map` made. Assumes nothing.
use Rattle.std.proofs.Common.{◌≡◌, ℕ, zero, suc, ◌+◌, ◌<◌, ◌≤◌, List, [], ◌∷◌, get_or, slice_index_or, refl, subst, zero-add, arith}
use Rattle.std.specs.Fn.{Mut, Called}
use Rattle.std.specs.Array.{MapsFrom, IsMapOf}

module _ {F A B : Type 0} (P : A → B → Type 0) where
  -- each call from f on has P, and leaves f as it was
  abbrev pub Always : Mut F (A × Unit {0}) B → F → Type 0
  Always g f = (x : A) (y : B) (q : F) → Called g f (x, tt) y q → (q ≡ f) × P x y

  mapped_from : (g : Mut F (A × Unit {0}) B) (f : F) → Always g f → (xs : List A) (ys : List B) (n : ℕ) (p : F) → p ≡ f → (i : ℕ) → MapsFrom g p xs ys i n → (j : ℕ) → j < n → (d : A) (e : B) → P (slice_index_or xs (i + j) d) (slice_index_or ys (i + j) e)
  mapped_from g f all xs ys zero p s i m j h d e = absurd (omega arith)
  mapped_from g f all xs ys (suc n) p s i m zero h d e =
      let z : i + 0 ≡ i = omega arith in
      let here = all m.1 m.2 m.0 (subst (λ (x : F). Called g x (m.1, tt) m.2 m.0) s m.5) in
      rw (z, m.3.1 d, m.4.1 e) here.1
  mapped_from g f all xs ys (suc n) p s i m (suc j) h d e =
      let z : i + suc j ≡ i + 1 + j = omega arith in
      let here = all m.1 m.2 m.0 (subst (λ (x : F). Called g x (m.1, tt) m.2 m.0) s m.5) in
      rw z (mapped_from g f all xs ys n m.0 here.0 (i + 1) m.6 j (omega arith) d e)

  -- then P holds at each index
  pub mapped : {g : Mut F (A × Unit {0}) B} {f : F} {xs : List A} {ys : List B} {n : ℕ} → IsMapOf g f xs ys n → Always g f → (j : ℕ) → j < n → (d : A) (e : B) → P (slice_index_or xs j d) (slice_index_or ys j e)
  mapped {g} {f} {xs} {ys} {n} m all j h d e =
      let z : 0 + j ≡ j = zero-add j in
      rw z at (mapped_from g f all xs ys n f refl 0 m.each j h d e)

-- the numbers that the arrays are made of
pub numbered : (b : ℕ) → b < 4 → slice_index_or (0 ∷ 1 ∷ 2 ∷ 3 ∷ []) b 0 ≡ b
numbered zero h = refl
numbered (suc zero) h = refl
numbered (suc (suc zero)) h = refl
numbered (suc (suc (suc zero))) h = refl
numbered (suc (suc (suc (suc b)))) h = absurd (omega arith)

-- what holds of each of four things at its place holds of the first n of their list
pub fours : {A : Type 0} (d : A) (P : ℕ → A → Type 0) (n : ℕ) → n ≤ 4 → {x y z w : A} → (0 < n → P 0 x) → (1 < n → P 1 y) → (2 < n → P 2 z) → (3 < n → P 3 w) → (a : ℕ) → a < n → P a (get_or (x ∷ y ∷ z ∷ w ∷ []) a d)
fours d P n few px py pz pw zero h = px h
fours d P n few px py pz pw (suc zero) h = py h
fours d P n few px py pz pw (suc (suc zero)) h = pz h
fours d P n few px py pz pw (suc (suc (suc zero))) h = pw h
fours d P n few px py pz pw (suc (suc (suc (suc a)))) h = absurd (omega arith)
