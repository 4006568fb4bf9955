-- The four rules hold in one way at most. Assumes nothing.
use native.Mathlib.Bridge.{le_prop}
use lib.Dec.{T_prop}
use std.HLevel.{⊥_prop}
use Rattle.mvl.specs.Labels.{Meaning}
use Rattle.mvl.specs.Unique.{ℕ-prop}
use Rattle.diagrams.specs.Shape.{Shape}
use Rattle.diagrams.specs.Diagram.{Target, terminal, node, Edge, Nodes, Stands, Over, Ordered, AtHome, Reduced}

pub Stands-prop : (m : Meaning) (d : Nodes) (t : Target) → IsProp (Stands m d t)
Stands-prop m d (terminal v) = le_prop
Stands-prop m d (node r) = λ x y. λ i. (le_prop x.0 y.0 i, T_prop (d.held r) x.1 y.1 i)

pub Over-prop : (m : Meaning) (d : Nodes) (e : Edge) → IsProp (Over m d e)
Over-prop m d e x y = λ i. record { label_within = le_prop x.label_within y.label_within i; stands = Stands-prop m d e.target x.stands y.stands i }

pub Ordered-prop : (m : Meaning) (s : Shape) (d : Nodes) → IsProp (Ordered m s d)
Ordered-prop m s d x y = λ i. record {
  variable_within = λ r h. le_prop (x.variable_within r h) (y.variable_within r h) i;
  over = λ r k h b. Over-prop m d (d.edge r k) (x.over r k h b) (y.over r k h b) i;
  below = λ r k h b. le_prop (x.below r k h b) (y.below r k h b) i;
}

pub AtHome-prop : (m : Meaning) (t : Target) → IsProp (AtHome m t)
AtHome-prop m (terminal v) = ℕ-prop
AtHome-prop m (node r) = λ x y. λ i. tt

pub Reduced-prop : (m : Meaning) (s : Shape) (d : Nodes) → IsProp (Reduced m s d)
Reduced-prop m s d x y = λ i. record {
  ordered = Ordered-prop m s d x.ordered y.ordered i;
  homes = λ r k h b. AtHome-prop m (d.edge r k).target (x.homes r k h b) (y.homes r k h b) i;
  zero_label = λ r h. ℕ-prop (x.zero_label r h) (y.zero_label r h) i;
  not_alike = λ r h f. ⊥_prop (x.not_alike r h f) (y.not_alike r h f) i;
  no_twin = λ q r hq hr v f. ℕ-prop (x.no_twin q r hq hr v f) (y.no_twin q r hq hr v f) i;
}
