-- What a store with no record keeps. Assumes nothing.
use Rattle.std.proofs.Common.{◌≡◌, List, [], replicate, sym, subst, arith}
use Rattle.std.proofs.lemmas.List.{get_or-replicate}
use Rattle.mvl.specs.Labels.{Meaning}
use Rattle.diagrams.specs.Shape.{Shape, ShapeLaws}
use Rattle.diagrams.proofs.Calls.Room.{empty_sound as table_sound}
use Rattle.tables.specs.Records.{none, nodes_in}
use Rattle.tables.specs.Chains.{Chained}
use Rattle.tables.specs.Sounds.{Sound}
use Rattle.tables.specs.declared.parts.node.Node.{Node}

none_chained : Chained [] (replicate 1024 none)
none_chained = record {
  links = λ r h. absurd (omega arith);
  heads = λ h b. rw (get_or-replicate 1024 h none none b) (record { early = omega arith; latest = λ q l e. absurd (omega arith); alike = λ l. absurd (omega arith) });
}

-- no record, and no chain
pub empty_chained : {xs : List Node} → xs ≡ [] → Chained xs (replicate 1024 none)
empty_chained e = subst (λ (xs : List Node). Chained xs (replicate 1024 none)) (sym e) none_chained

pub none_sound : (m : Meaning) (s : Shape) → ShapeLaws s → Sound m s []
none_sound m s sl = record {
  reduced = (table_sound m (record { shape = s; nodes = nodes_in []; capacity = 0 }) (record { shape_laws = sl; none = λ r h. let b = h.0 in omega arith })).reduced;
  fills = λ r i h b c. absurd (omega arith);
}
