-- The chains hold in one way at most, so that a store can keep them. Assumes nothing.
use Rattle.std.specs.Prelude.{ℕ, List}
use Rattle.std.proofs.Math.Bridge.{le_prop}
use Rattle.mvl.specs.Unique.{ℕ-prop}
use Rattle.tables.specs.declared.parts.link.Link.{Link}
use Rattle.tables.specs.declared.parts.node.Node.{Node}
use Rattle.tables.specs.Chains.{Latest, Chained}

pub Latest-prop : (xs : List Node) (n h l : ℕ) → IsProp (Latest xs n h l)
Latest-prop xs n h l x y = λ i. record {
  early = le_prop x.early y.early i;
  latest = λ q b e. le_prop (x.latest q b e) (y.latest q b e) i;
  alike = λ b. ℕ-prop (x.alike b) (y.alike b) i;
}

pub Chained-prop : (xs : List Node) (tops : List Link) → IsProp (Chained xs tops)
Chained-prop xs tops x y = λ i. record {
  links = λ r h. Latest-prop xs _ _ _ (x.links r h) (y.links r h) i;
  heads = λ k h. Latest-prop xs _ _ _ (x.heads k h) (y.heads k h) i;
}
