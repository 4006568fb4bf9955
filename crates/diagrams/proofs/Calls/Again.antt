-- A second exchange at the same place is granted, adds no node and brings the old order back. Assumes nothing.
use Rattle.std.proofs.Common.{◌≡◌, ℕ, suc, ◌<◌, sym, ◌∙◌, subst, arith}
use Rattle.mvl.specs.Labels.{Meaning, Laws}
use Rattle.diagrams.specs.Shape.{Shape, ShapeLaws, variable_at, swapped}
use Rattle.diagrams.specs.Diagram.{Nodes, population, Reduced}
use Rattle.diagrams.specs.Exchange.{Exchanged, missing}
use Rattle.diagrams.specs.Calls.{Table, exchange}
use Rattle.diagrams.specs.Runs.{done, Step, exchanges}
use Rattle.diagrams.specs.Theorems.{ExchangeAgainGranted}
use Rattle.diagrams.proofs.Reading.Orders.{variable_at_is}
use Rattle.diagrams.proofs.Build.Keep.{population_mono}
use Rattle.diagrams.proofs.Exchange.Places.{swapped_laws, place_upper, place_lower, swapped_back, near_back}
use Rattle.diagrams.proofs.Exchange.Rules.{exchange_reduced}
use Rattle.diagrams.proofs.Exchange.Again.{exchange_again}
use Rattle.diagrams.proofs.Exchange.Computed.{exchanged_is}
use Rattle.diagrams.proofs.Exchange.Count.{exchange_count}
use Rattle.diagrams.proofs.Calls.Granted.{granted_is, granted_from}
use Rattle.diagrams.proofs.Calls.Room.{step_sound}

-- only x has its place
at_place : {s : Shape} → ShapeLaws s → (x p : ℕ) → x < s.count → s.place x ≡ p → variable_at s p ≡ x
at_place {s} sl x p hx e =
    let v = variable_at_is sl p (let h = sl.place_within x hx in omega arith) in
    sl.place_apart (variable_at s p) x v.0 hx (v.1 ∙ sym e)

module _ {m : Meaning} (l : Laws m) {s : Shape} (sl : ShapeLaws s) {d : Nodes} (red : Reduced m s d) {u w : ℕ} {d' : Nodes} (ex : Exchanged m s d u w d') where
  -- a second exchange, however it is done, has no other nodes
  again_few : {d'' : Nodes} → Exchanged m (swapped s u w) d' w u d'' → population d'' ≡ population d'
  again_few {d''} ex' =
      let few = population_mono d'' d' (exchange_again l sl red ex ex') in
      let all = population_mono d' d'' ex'.keeps in
      omega arith

  -- so none is missing
  again_missing : missing m (swapped s u w) d' w u ≡ 0
  again_missing =
      let laws = swapped_laws sl ex.neighbours in
      let reduced = exchange_reduced l sl red ex in
      let ex' = exchanged_is l laws reduced (near_back ex.neighbours) in
      let count = exchange_count l laws reduced ex' in
      let few = again_few ex' in
      omega arith

  -- the variables of the two places, which are changed over by now
  again_upper : (p : ℕ) → s.place u ≡ p → variable_at (swapped s u w) p ≡ w
  again_upper p e = at_place (swapped_laws sl ex.neighbours) w p ex.neighbours.lower (place_lower ex.neighbours ∙ e)

  again_lower : (p : ℕ) → s.place u ≡ p → variable_at (swapped s u w) (suc p) ≡ u
  again_lower p e =
      at_place (swapped_laws sl ex.neighbours) u (suc p) ex.neighbours.upper (let next = place_upper ex.neighbours in omega arith)

  -- the same, said of the variables by their places
  room_again : (p : ℕ) → s.place u ≡ p → missing m (swapped s u w) d' (variable_at (swapped s u w) p) (variable_at (swapped s u w) (suc p)) ≡ 0
  room_again p e = rw (again_upper p e) (rw (again_lower p e) again_missing)

  nodes_again : (p : ℕ) → s.place u ≡ p → {d'' : Nodes}
      → Exchanged m (swapped s u w) d' (variable_at (swapped s u w) p) (variable_at (swapped s u w) (suc p)) d'' → population d'' ≡ population d'
  nodes_again p e {d''} ex' =
      again_few (subst (λ y. Exchanged m (swapped s u w) d' y u d'') (again_upper p e)
      (subst (λ z. Exchanged m (swapped s u w) d' (variable_at (swapped s u w) p) z d'') (again_lower p e) ex'))

  order_again : (p : ℕ) → s.place u ≡ p → (x : ℕ)
      → (swapped (swapped s u w) (variable_at (swapped s u w) p) (variable_at (swapped s u w) (suc p))).place x ≡ s.place x
  order_again p e x = rw (again_upper p e) (rw (again_lower p e) (swapped_back ex.neighbours x))

pub exchange_again_granted : ExchangeAgainGranted
exchange_again_granted m l t sound p t' (exchanges _ d' granted ex) =
    let sl = sound.shape_laws in
    let red = sound.reduced in
    let within : suc p < t.shape.count = (granted_is m t (exchange p) granted).0 in
    let at : t.shape.place (variable_at t.shape p) ≡ p = (variable_at_is sl p (omega arith)).1 in
    let fits = (step_sound l sound (exchanges p d' granted ex)).0.fits in
    let none = room_again l sl red ex p at in
    (granted_from m t' (exchange p) (within, omega arith), λ t'' step. next sl red ex at t'' step)
  where
    next : ShapeLaws t.shape → Reduced m t.shape t.nodes → Exchanged m t.shape t.nodes (variable_at t.shape p) (variable_at t.shape (suc p)) d'
        → t.shape.place (variable_at t.shape p) ≡ p → (t'' : Table) → Step m t' (exchange p) done t''
        → (population t''.nodes ≡ population t'.nodes) × ((x : ℕ) → x < t.shape.count → t''.shape.place x ≡ t.shape.place x)
    next sl red ex at t'' (exchanges _ d'' granted' ex') = (nodes_again l sl red ex p at ex', λ x hx. order_again l sl red ex p at x)
