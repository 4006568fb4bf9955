-- What a card keeps. Assumes nothing.
use Rattle.std.proofs.Common.{get_or, sym, ap, ◌∙◌}
use Rattle.diagrams.specs.Shape.{ShapeLaws}
use Rattle.tables.specs.Cards.{shape_of}
use Rattle.tables.specs.declared.parts.card.Card.{Card}

pub shape_laws_of : (c : Card) → ShapeLaws (shape_of c)
shape_laws_of c = record {
  size_low = λ x h. (c.sized x h).0;
  size_high = λ x h. (c.sized x h).1;
  place_within = λ x h. c.ordered.0 x h;
  place_apart = λ x y hx hy e. sym (c.ordered.1 x hx) ∙ ap (λ t. get_or c.order t 0) e ∙ c.ordered.1 y hy;
}
