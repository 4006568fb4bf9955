-- Rows that are filled with a labelling's answers. Assumes nothing.
use Rattle.std.proofs.Common.{◌≡◌, ℕ, zero, suc, ◌+◌, ◌*◌, ◌/◌, ◌%◌, ◌<◌, ◌≤◌, List, slice_index_or, Ok, Err, Result, sym, ap, ◌∙◌, subst, ⊎_elim, arith}
use Rattle.std.proofs.lemmas.Bool.{cases_eq}
use Rattle.std.specs.Fn.{Mut, Called}
use Rattle.std.specs.Array.{IsFromFnResultFrom}
use Rattle.std.specs.Result.{result_unwrap_or}
use Rattle.mvl.specs.Labels.{Meaning, product, inverse, home, home_label, Laws}
use Rattle.mvl.specs.Answers.{Within, Carries, Multiplies, Inverts, HomeIs, Homes}
use Rattle.mvl.specs.Clip.{clip_same, clip_product, clip_inverse, clip_home, clip_home_label}
use Rattle.mvl.specs.Clipped.{clipped}
use Rattle.mvl.specs.Rows.{Line, Grid, Answered, rows_meaning}
use Rattle.mvl.specs.declared.refusal.Refusal.{Refusal}
use Rattle.mvl.specs.declared.refusal.Refusal.TheVariants.{NoValue, NoLabel}
use Rattle.mvl.specs.Home.{carried_home}

-- the home, found by the inverse of the home label
pub home_told : {m : Meaning} (l : Laws m) {v k i : ℕ} → Homes m v (Ok k) → Inverts m k (Ok i) → (r : Result ℕ Refusal) → Carries m i v r → HomeIs m v r
home_told {m} l {v} lifts back (Ok w) t =
    (t.0, t.2 ∙ ap (λ j. m.carry j v) (back.1 ∙ ap (inverse m) lifts.1) ∙ carried_home l v t.0)
home_told l {v} {k} lifts back (Err e) t = absurd (omega (arith, (t.1 lifts.0).0, back.1, l.inverse_within k back.0))

-- where each call keeps K, and K and a call at i make S of i, S holds of what calls at each number made
module _ {F B : Type 0} (g : Mut F (ℕ × Unit {0}) B) (K : F → Type 0) (S : ℕ → B → Type 0)
    (step : (p q : F) (i : ℕ) (y : B) → K p → Called g p (i, tt) y q → K q × S i y) where
  pub made_at : (n : ℕ) (f : F) (ys : List B) (i : ℕ) → K f → IsFromFnResultFrom g f ys i n → (j : ℕ) (d : B) → i ≤ j → j < i + n → S j (slice_index_or ys j d)
  made_at zero f ys i k calls j d low high = absurd (omega arith)
  made_at (suc n) f ys i k calls j d low high =
      let made = step f calls.0 i calls.1 k calls.3 in
      ⊎_elim
      (λ (e : j ≡ i). subst (λ k. S k (slice_index_or ys k d)) (sym e) (subst (S i) (sym (calls.2.1 d)) made.1))
      (λ ne. made_at n calls.0 ys (i + 1) made.0 calls.4 j d (omega arith) (omega arith))
      (cases_eq j i)

-- a number within its bound was told what is answered at it
within_told : (n x answer : ℕ) (e : Refusal) (r : Result ℕ Refusal) → x < n → Within n e x answer r → result_unwrap_or r 0 ≡ answer
within_told n x answer e (Ok w) h t = t.1
within_told n x answer e (Err f) h t = absurd (omega (arith, t.0))

line_told : (n : ℕ) (answer : ℕ → ℕ) (e : Refusal) (row : List ℕ) → n ≤ 4 → Answered 4 (λ x r. Within n e x (answer x) r) row → Line n answer row
line_told n answer e row few answered x h = let told = answered x (omega arith) in told.2 ∙ within_told n x (answer x) e told.0 h told.1

-- two numbers, asked for at 4 * a + b
grid_told : (n k : ℕ) (answer : ℕ → ℕ → ℕ) (Told : ℕ → ℕ → Result ℕ Refusal → Type 0) (row : List ℕ) → n ≤ 4 → k ≤ 4
    → ((a b : ℕ) (r : Result ℕ Refusal) → a < n → b < k → Told a b r → result_unwrap_or r 0 ≡ answer a b)
    → Answered 16 (λ x r. Told (x / 4) (x % 4) r) row → Grid n k answer row
grid_told n k answer Told row few few-k says answered a b ha hb =
    let told = answered (4 * a + b) (omega arith) in
    let first : (4 * a + b) / 4 ≡ a = omega arith in
    let second : (4 * a + b) % 4 ≡ b = omega arith in
    told.2 ∙ says a b told.0 ha hb (subst (λ i. Told i b told.0) first (subst (λ j. Told ((4 * a + b) / 4) j told.0) second told.1))

module _ {m : Meaning} (l : Laws m) where
  carried : (k v : ℕ) (r : Result ℕ Refusal) → k < m.labels → v < m.radix → Carries m k v r → result_unwrap_or r 0 ≡ m.carry k v
  carried k v (Ok w) hk hv t = t.2
  carried k v (Err e) hk hv t = absurd (omega (arith, (t.1 hv).0))

  multiplied : (a b : ℕ) (r : Result ℕ Refusal) → a < m.labels → b < m.labels → Multiplies m a b r → result_unwrap_or r 0 ≡ product m a b
  multiplied a b (Ok k) ha hb t = t.2
  multiplied a b (Err e) ha hb t = absurd (omega (arith, t.0 ha))

  -- a row that has the carries means the clipped meaning, whatever else stands in it
  pub carries_clipped : {p g : ℕ} (row : List ℕ) → p ≡ m.radix → g ≡ m.labels → Grid m.labels m.radix m.carry row → rows_meaning p g row ≡ clipped m
  carries_clipped {p} {g} row is-p is-g = clip_same (record { radix = p; labels = g; carry = λ k v. slice_index_or row (4 * k + v) 0 }) m is-p is-g

  -- so does a row that was filled with them
  pub carries_told : {p g : ℕ} (row : List ℕ) → p ≡ m.radix → g ≡ m.labels → Answered 16 (λ x r. Carries m (x / 4) (x % 4) r) row → rows_meaning p g row ≡ clipped m
  carries_told row is-p is-g answered =
      carries_clipped row is-p is-g (grid_told m.labels m.radix m.carry (Carries m) row l.labels_high l.radix_high carried answered)

  -- and the other rows have its answers
  pub products_told : (row : List ℕ) → Answered 16 (λ x r. Multiplies m (x / 4) (x % 4) r) row → Grid m.labels m.labels (product (clipped m)) row
  products_told row answered a b ha hb = grid_told m.labels m.labels (product m) (Multiplies m) row l.labels_high l.labels_high multiplied answered a b ha hb ∙ sym (clip_product l a b ha hb)

  pub inverses_told : (row : List ℕ) → Answered 4 (λ x r. Inverts m x r) row → Line m.labels (inverse (clipped m)) row
  inverses_told row answered a ha = line_told m.labels (inverse m) NoLabel row l.labels_high answered a ha ∙ sym (clip_inverse l a ha)

  pub homes_told : (row : List ℕ) → Answered 4 (λ x r. HomeIs m x r) row → Line m.radix (home (clipped m)) row
  homes_told row answered v hv = line_told m.radix (home m) NoValue row l.radix_high answered v hv ∙ sym (clip_home m v)

  pub home_labels_told : (row : List ℕ) → Answered 4 (λ x r. Homes m x r) row → Line m.radix (home_label (clipped m)) row
  home_labels_told row answered v hv = line_told m.radix (home_label m) NoValue row l.radix_high answered v hv ∙ sym (clip_home_label l v hv)
