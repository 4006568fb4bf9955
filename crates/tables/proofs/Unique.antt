-- What a table keeps holds in one way at most, so it comes out of its truncation. Assumes nothing.
use Rattle.std.proofs.Common.{List}
use mathlib.Core.Logic.{∥∥₁_elim}
use Rattle.mvl.specs.Unique.{ℕ-prop}
use Rattle.mvl.specs.Labels.{Meaning}
use Rattle.diagrams.specs.Shape.{Shape}
use Rattle.diagrams.proofs.Unique.{Reduced-prop}
use Rattle.tables.specs.Sounds.{Sound}
use Rattle.tables.specs.declared.parts.node.Node.{Node}

module _ {m : Meaning} {s : Shape} {xs : List Node} where
  pub Sound-prop : IsProp (Sound m s xs)
  Sound-prop x y = λ i. record {
    reduced = Reduced-prop m s _ x.reduced y.reduced i;
    fills = λ r k h b c. ℕ-prop (x.fills r k h b c) (y.fills r k h b c) i;
  }

  pub sound_out : ∥ Sound m s xs ∥₁ → Sound m s xs
  sound_out t = ∥∥₁_elim t Sound-prop (λ s. s)
