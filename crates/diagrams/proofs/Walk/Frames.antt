-- A stack that is held in a list of frames, one of which is written. Assumes nothing.
use Rattle.std.proofs.Common.{ℕ, suc, ◌<◌, List, length, get_or, set, sym, ap, subst, arith, get_or-set_other, get_or-set_same}
use Rattle.diagrams.specs.Diagram.{Edge}
use Rattle.diagrams.proofs.Walk.Stack.{Piece, Opens, Extends, SameBelow, Fills, Pushes}

-- p reads a frame as a piece, and idle is what stands beyond the end
module _ {A B : Type 0} (p : B → Piece A) (idle : B) (fs : List B) (f : B) where
  below_same : (k : ℕ) → SameBelow k (λ j. p (get_or fs j idle)) (λ j. p (get_or (set fs k f) j idle))
  below_same k j h = ap p (get_or-set_other fs k j f idle (omega arith))

  -- the frame of the top is written
  pub fills_set : {k : ℕ} {r : Edge} → k < length fs → Extends (p (get_or fs k idle)) (p f) r
      → Fills (λ j. p (get_or fs j idle)) (λ j. p (get_or (set fs k f) j idle)) k r
  fills_set {k} {r} within more = record {
    same = below_same k;
    extends = subst (λ (g : B). Extends (p (get_or fs k idle)) (p g) r) (sym (get_or-set_same fs k f idle within)) more;
  }

  -- the frame above it is
  pub pushes_set : {k : ℕ} {t : A} {y : ℕ} → suc k < length fs → Opens (p f) t y
      → Pushes (λ j. p (get_or fs j idle)) (λ j. p (get_or (set fs (suc k) f) j idle)) k t y
  pushes_set {k} {t} {y} within opens = record {
    same = below_same (suc k);
    opens = subst (λ (g : B). Opens (p g) t y) (sym (get_or-set_same fs (suc k) f idle within)) opens;
  }
