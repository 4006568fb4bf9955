-- Functions that agree on every assignment have one diagram. Assumes nothing.
use Rattle.std.proofs.Common.{◌≡◌, ◌∙◌, arith}
use Rattle.mvl.specs.Labels.{Meaning, Laws}
use Rattle.diagrams.specs.Shape.{Shape, ShapeLaws}
use Rattle.diagrams.specs.Functions.{Function, Agree, Ranged, Depends}
use Rattle.diagrams.specs.Diagram.{Edge, Nodes, Reduced}
use Rattle.diagrams.specs.Build.{Gains, lacking}
use Rattle.diagrams.proofs.Build.Gain.{build_gains}
use Rattle.diagrams.proofs.Build.Count.{gains_count}

-- what is gained for the one is gained for the other
pub gains_agree : {m : Meaning} {s : Shape} {d : Nodes} {f g : Function} {d' : Nodes} {e : Edge} → Agree s f g → Gains m s d f d' e → Gains m s d g d' e
gains_agree agree gains = record {
  reduced = gains.reduced;
  keeps = gains.keeps;
  of = gains.of;
  function = λ a assigns. gains.function a assigns ∙ agree a assigns;
  lacked = gains.lacked;
}

-- and as many nodes are lacked
pub lacking_agree : {m : Meaning} → Laws m → {s : Shape} → ShapeLaws s → {d : Nodes} → Reduced m s d → (f g : Function) → Ranged m s f → Depends s 0 f → Agree s f g
    → lacking m s d f ≡ lacking m s d g
lacking_agree l sl red f g ranged dep agree =
    let built = build_gains l sl red f ranged dep in
    omega (arith, gains_count l sl red f built, gains_count l sl red g (gains_agree agree built))
