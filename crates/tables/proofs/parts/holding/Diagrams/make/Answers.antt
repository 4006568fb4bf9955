use Rattle.std.proofs.Common.{get_or, refl, ap, ◌∙◌, take, arith}
use lib.Seq.{take-append_seam}
use Rattle.diagrams.specs.Diagram.{node}
use Rattle.diagrams.proofs.Reading.Edges.{edge_same}
use Rattle.tables.specs.Records.{none, hash_of}
use Rattle.tables.specs.Stores.{items}
use Rattle.tables.proofs.Facts.{laws, shape_laws, sound_of}
use Rattle.tables.proofs.NodeMade.{unlike_is, made_alike, made_present, none_made, made_added, sound_added}
use Rattle.tables.proofs.Growing.{grown_refl}
use Rattle.tables.proofs.parts.holding.Diagrams.make.Goals as goal

pub returns-then-alike : goal.returns-then-alike
returns-then-alike c =
    let D = c.args.self.now in
    record { grown = grown_refl D; makes = made_alike (laws D) (shape_laws D) (sound_of D) c.args.edges c.requires c.if-alike.ensures }

pub returns-in-Some : goal.returns-in-Some
returns-in-Some c =
    let D = c.args.self.now in
    let same = c.to.ensures ∙ edge_same c.label-label.ensures.value refl in
    record { grown = grown_refl D; makes = made_present (laws D) (shape_laws D) (sound_of D) c.args.edges c.requires c.label-label.ensures.value c.inverse.ensures.value c.turned-normal.ensures c.in-Some.ensures same }

pub returns-then-r-self : goal.returns-then-r-self
returns-then-r-self c =
    let D = c.args.self.now in
    record {
      is = refl;
      same = refl;
      unlike = unlike_is (laws D) (shape_laws D) (sound_of D) c.args.edges c.requires c.if-alike.ensures;
      missing = none_made (laws D) (shape_laws D) (sound_of D) c.args.edges c.requires c.label-label.ensures.value c.inverse.ensures.value c.turned-normal.ensures c.in_default.ensures;
      full = omega arith;
    }

pub invariant_of-self : goal.invariant_of-self
invariant_of-self c =
    let D = c.args.self.now in
    let next = get_or D.store.heads (hash_of (record { variable = c.args.x; edges = c.turned-normal.result })) none in
    record {
      room = c.push.ensures.limit ∙ D.room;
      sound = ∣ sound_added (laws D) (shape_laws D) (sound_of D) c.args.edges c.requires c.label-label.ensures.value c.inverse.ensures.value c.turned-normal.ensures c.if-alike.ensures c.in_default.ensures
          next c.push.ensures.items ∣₁;
    }

pub returns : goal.returns
returns c =
    let D = c.args.self.now in
    let next = get_or D.store.heads (hash_of (record { variable = c.args.x; edges = c.turned-normal.result })) none in
    let same = c.to-2.ensures ∙ edge_same c.label-label.ensures.value (ap node c.len-r.ensures) in
    record {
      grown = record { chart = refl; card = refl; grows = ap (take _) c.push.ensures.items ∙ take-append_seam (items D.store) _ };
      makes = made_added (laws D) (shape_laws D) (sound_of D) c.args.edges c.requires c.label-label.ensures.value c.inverse.ensures.value c.turned-normal.ensures c.if-alike.ensures c.in_default.ensures
          next c.push.ensures.items same;
    }
