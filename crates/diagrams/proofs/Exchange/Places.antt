-- The places of the variables after an exchange. Assumes nothing.
use Rattle.std.proofs.Common.{◌≡◌, ℕ, ◌+◌, ◌<◌, cond, eqb, ◌⊎◌, sym, refl, ap, ◌∙◌, inl, inr, arith}
use Rattle.std.proofs.lemmas.Bool.{cases_eq}
use Rattle.diagrams.specs.Shape.{Shape, ShapeLaws, Neighbours, swapped}
use Rattle.mvl.specs.Tests.{cond_equal, cond_other}

-- a variable is the upper one, the lower one or another, and its new place
pub data Placed (s : Shape) (u w x : ℕ) : Type 0 where
  is_upper : x ≡ u → (swapped s u w).place x ≡ s.place w → Placed s u w x
  is_lower : x ≡ w → (swapped s u w).place x ≡ s.place u → Placed s u w x
  is_other : (x ≡ u → ⊥) → (x ≡ w → ⊥) → (swapped s u w).place x ≡ s.place x → Placed s u w x

pub placed : (s : Shape) (u w x : ℕ) → Placed s u w x
placed s u w x = go (cases_eq x u) (cases_eq x w)
  where
    other : ℕ
    other = cond (eqb x w) (s.place u) (s.place x)

    go : (x ≡ u) ⊎ (x ≡ u → ⊥) → (x ≡ w) ⊎ (x ≡ w → ⊥) → Placed s u w x
    go (inl p) c = is_upper p (cond_equal x u (s.place w) other p)
    go (inr f) (inl p) = is_lower p (cond_other x u (s.place w) other f ∙ cond_equal x w (s.place u) (s.place x) p)
    go (inr f) (inr g) = is_other f g (cond_other x u (s.place w) other f ∙ cond_other x w (s.place u) (s.place x) g)

-- the variables keep their laws when two of them change places
pub swapped_laws : {s : Shape} {u w : ℕ} → ShapeLaws s → Neighbours s u w → ShapeLaws (swapped s u w)
swapped_laws {s} {u} {w} sl near = record { size_low = sl.size_low; size_high = sl.size_high; place_within = within; place_apart = apart }
  where
    within : (x : ℕ) → x < s.count → (swapped s u w).place x < s.count
    within x h = go (placed s u w x)
      where
        go : Placed s u w x → (swapped s u w).place x < s.count
        go (is_upper p q) = rw q (sl.place_within w near.lower)
        go (is_lower p q) = rw q (sl.place_within u near.upper)
        go (is_other f g q) = rw q (sl.place_within x h)

    apart : (x y : ℕ) → x < s.count → y < s.count → (swapped s u w).place x ≡ (swapped s u w).place y → x ≡ y
    apart x y h k e = go (placed s u w x) (placed s u w y)
      where
        go : Placed s u w x → Placed s u w y → x ≡ y
        go (is_upper p q) (is_upper p' q') = cc
        go (is_upper p q) (is_lower p' q') = let z = sl.place_apart w u near.lower near.upper (sym q ∙ (e ∙ q')) in cc
        go (is_upper p q) (is_other f g q') = absurd (g (sym (sl.place_apart w y near.lower k (sym q ∙ (e ∙ q')))))
        go (is_lower p q) (is_upper p' q') = let z = sl.place_apart u w near.upper near.lower (sym q ∙ (e ∙ q')) in cc
        go (is_lower p q) (is_lower p' q') = cc
        go (is_lower p q) (is_other f g q') = absurd (f (sym (sl.place_apart u y near.upper k (sym q ∙ (e ∙ q')))))
        go (is_other f g q) (is_upper p' q') = absurd (g (sl.place_apart x w h near.lower (sym q ∙ (e ∙ q'))))
        go (is_other f g q) (is_lower p' q') = absurd (f (sl.place_apart x u h near.upper (sym q ∙ (e ∙ q'))))
        go (is_other f g q) (is_other f' g' q') = sl.place_apart x y h k (sym q ∙ (e ∙ q'))

module _ {s : Shape} {u w : ℕ} (near : Neighbours s u w) where
  -- neighbours are two variables
  pub near_apart : u ≡ w → ⊥
  near_apart e = let n = near.next in let k = ap s.place e in omega arith

  -- the new places of the two variables
  pub place_upper : (swapped s u w).place u ≡ s.place u + 1
  place_upper = go (placed s u w u)
    where
      go : Placed s u w u → (swapped s u w).place u ≡ s.place u + 1
      go (is_upper p q) = q ∙ near.next
      go (is_lower p q) = absurd (near_apart p)
      go (is_other f g q) = absurd (f refl)

  pub place_lower : (swapped s u w).place w ≡ s.place u
  place_lower = go (placed s u w w)
    where
      go : Placed s u w w → (swapped s u w).place w ≡ s.place u
      go (is_upper p q) = absurd (near_apart (sym p))
      go (is_lower p q) = q
      go (is_other f g q) = absurd (g refl)

  -- changed over once more, every variable has its old place
  pub swapped_back : (x : ℕ) → (swapped (swapped s u w) w u).place x ≡ s.place x
  swapped_back x = go (placed (swapped s u w) w u x) (placed s u w x)
    where
      go : Placed (swapped s u w) w u x → Placed s u w x → (swapped (swapped s u w) w u).place x ≡ s.place x
      go (is_upper p q) _ = q ∙ (place_upper ∙ (sym near.next ∙ ap s.place (sym p)))
      go (is_lower p q) _ = q ∙ (place_lower ∙ ap s.place (sym p))
      go (is_other f g q) (is_upper p r) = absurd (g p)
      go (is_other f g q) (is_lower p r) = absurd (f p)
      go (is_other f g q) (is_other h k r) = q ∙ r

  -- and the two are neighbours the other way round
  pub near_back : Neighbours (swapped s u w) w u
  near_back = record { upper = near.lower; lower = near.upper; next = let a = place_upper in let b = place_lower in omega arith }
