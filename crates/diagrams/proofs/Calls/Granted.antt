-- A call that is not refused: what it has passed, either way round. Assumes nothing.
use Rattle.std.proofs.Common.{◌≡◌, ℕ, suc, ◌+◌, ◌<◌, Bool, true, false, ◌&&◌, T, eqb, ltb, leb, refl, ◌∙◌, arith, le→leb, eqb→eq, ltb→lt, lt→ltb, leb→le}
use Rattle.mvl.specs.declared.refusal.Refusal.{Refusal}
use Rattle.mvl.specs.declared.refusal.Refusal.TheVariants.{NoEdge, NoVariable, NoValue, NoLabel, WrongRadix, TooWide, NoPlace, NoRoom}
use Rattle.mvl.specs.Numbers.{number}
use Rattle.mvl.specs.Labels.{Meaning, home}
use Rattle.diagrams.specs.Diagram.{Target, terminal, node, Edge, Nodes, population, Stands, AtHome, Of}
use Rattle.diagrams.specs.Calls.{Table, constant, variable, literal, turn, apply, restrict, Call, asks, exchange}
use Rattle.diagrams.specs.Refusals.{is_target, is_edge, unless, fits, adding, room_for, refusal, Room, Granted}
use Rattle.mvl.specs.Tests.{equal_passes, and_left, and_right, and_both, cond_yes}

-- the test for an edge of the table
target_is : (m : Meaning) (d : Nodes) (t : Target) → T (is_target m d t) → Stands m d t × AtHome m t
target_is m d (terminal v) t =
    (ltb→lt v m.radix (and_left (ltb v m.radix) (eqb (home m v) v) t), eqb→eq (home m v) v (and_right (ltb v m.radix) (eqb (home m v) v) t))
target_is m d (node r) t = ((ltb→lt r d.bound (and_left (ltb r d.bound) (d.held r) t), and_right (ltb r d.bound) (d.held r) t), tt)

target_from : (m : Meaning) (d : Nodes) (t : Target) → Stands m d t → AtHome m t → T (is_target m d t)
target_from m d (terminal v) h e = and_both (ltb v m.radix) (eqb (home m v) v) (lt→ltb v m.radix h) (equal_passes e)
target_from m d (node r) h e = and_both (ltb r d.bound) (d.held r) (lt→ltb r d.bound h.0) h.1

-- it passes exactly the edges of the table
pub edge_is : (m : Meaning) (d : Nodes) (e : Edge) → T (is_edge m d e) → Of m d e
edge_is m d e t =
    let x = target_is m d e.target (and_right (ltb e.label m.labels) (is_target m d e.target) t) in
    record { over = record { label_within = ltb→lt e.label m.labels (and_left (ltb e.label m.labels) (is_target m d e.target) t); stands = x.0 }; home = x.1 }

pub edge_from : {m : Meaning} {d : Nodes} {e : Edge} → Of m d e → T (is_edge m d e)
edge_from {m} {d} {e} o =
    and_both (ltb e.label m.labels) (is_target m d e.target) (lt→ltb e.label m.labels o.over.label_within)
    (target_from m d e.target o.over.stands o.home)

-- a test that lets a call pass
pass : (b : Bool) (k : Refusal) (rest : ℕ) → T b → rest ≡ 0 → unless b k rest ≡ 0
pass b k rest t e = cond_yes b rest (number k) t ∙ e

passes : (b : Bool) (k : Refusal) (rest : ℕ) → T (ltb 0 (number k)) → unless b k rest ≡ 0 → T b × (rest ≡ 0)
passes true k rest some e = (tt, e)
passes false k rest some e = absurd (omega (arith, ltb→lt 0 (number k) some))

module _ (m : Meaning) (t : Table) where
  below_is : (a b : ℕ) (k : Refusal) (rest : ℕ) → T (ltb 0 (number k)) → unless (ltb a b) k rest ≡ 0 → (a < b) × (rest ≡ 0)
  below_is a b k rest some e = let p = passes (ltb a b) k rest some e in (ltb→lt a b p.0, p.1)

  of_is : (e : Edge) (rest : ℕ) → unless (is_edge m t.nodes e) NoEdge rest ≡ 0 → Of m t.nodes e × (rest ≡ 0)
  of_is e rest h = let p = passes (is_edge m t.nodes e) NoEdge rest tt h in (edge_is m t.nodes e p.0, p.1)

  room_is : (c : Call) → room_for m t c ≡ 0 → Room m t c
  room_is c e = leb→le (population t.nodes + adding m t c) t.capacity (passes (fits t (adding m t c)) NoRoom 0 tt e).0

  room_from : (c : Call) → Room m t c → room_for m t c ≡ 0
  room_from c room = pass (fits t (adding m t c)) NoRoom 0 (le→leb (population t.nodes + adding m t c) t.capacity room) refl

  -- what holds of a call that is granted
  pub granted_is : (c : Call) → refusal m t c ≡ 0 → Granted m t c
  granted_is (asks (constant v)) e = (below_is v m.radix NoValue 0 tt e).0
  granted_is (asks (variable x)) e =
      let p = below_is x t.shape.count NoVariable _ tt e in
      let q = passes (leb (t.shape.size x) m.radix) TooWide _ tt p.1 in
      (p.0, leb→le (t.shape.size x) m.radix q.0, room_is (asks (variable x)) q.1)
  granted_is (asks (literal x v)) e =
      let p = below_is x t.shape.count NoVariable _ tt e in
      let q = below_is v (t.shape.size x) NoValue _ tt p.1 in
      (p.0, q.0, room_is (asks (literal x v)) q.1)
  granted_is (asks (turn f k)) e =
      let p = of_is f _ e in
      (p.0, (below_is k m.labels NoLabel 0 tt p.1).0)
  granted_is (asks (apply r op f g)) e =
      let p = passes (is_edge m t.nodes f && is_edge m t.nodes g) NoEdge _ tt e in
      let q = passes (eqb r m.radix) WrongRadix _ tt p.1 in (
        edge_is m t.nodes f (and_left (is_edge m t.nodes f) (is_edge m t.nodes g) p.0),
        edge_is m t.nodes g (and_right (is_edge m t.nodes f) (is_edge m t.nodes g) p.0),
        eqb→eq r m.radix q.0,
        room_is (asks (apply r op f g)) q.1,
      )
  granted_is (asks (restrict f x v)) e =
      let p = of_is f _ e in
      let q = below_is x t.shape.count NoVariable _ tt p.1 in
      let r = below_is v (t.shape.size x) NoValue _ tt q.1 in
      (p.0, q.0, r.0, room_is (asks (restrict f x v)) r.1)
  granted_is (exchange p) e =
      let q = below_is (suc p) t.shape.count NoPlace _ tt e in
      (q.0, room_is (exchange p) q.1)

  -- and a call of which it holds is granted
  pub granted_from : (c : Call) → Granted m t c → refusal m t c ≡ 0
  granted_from (asks (constant v)) h = pass (ltb v m.radix) NoValue 0 (lt→ltb v m.radix h) refl
  granted_from (asks (variable x)) (hx, hs, room) =
      pass (ltb x t.shape.count) NoVariable _ (lt→ltb x t.shape.count hx)
      (pass (leb (t.shape.size x) m.radix) TooWide _ (le→leb (t.shape.size x) m.radix hs) (room_from (asks (variable x)) room))
  granted_from (asks (literal x v)) (hx, hv, room) =
      pass (ltb x t.shape.count) NoVariable _ (lt→ltb x t.shape.count hx)
      (pass (ltb v (t.shape.size x)) NoValue _ (lt→ltb v (t.shape.size x) hv) (room_from (asks (literal x v)) room))
  granted_from (asks (turn f k)) (of, hk) =
      pass (is_edge m t.nodes f) NoEdge _ (edge_from of) (pass (ltb k m.labels) NoLabel 0 (lt→ltb k m.labels hk) refl)
  granted_from (asks (apply r op f g)) (of-f, of-g, same, room) =
      pass (is_edge m t.nodes f && is_edge m t.nodes g) NoEdge _ (and_both (is_edge m t.nodes f) (is_edge m t.nodes g) (edge_from of-f) (edge_from of-g))
      (pass (eqb r m.radix) WrongRadix _ (equal_passes same) (room_from (asks (apply r op f g)) room))
  granted_from (asks (restrict f x v)) (of, hx, hv, room) =
      pass (is_edge m t.nodes f) NoEdge _ (edge_from of)
      (pass (ltb x t.shape.count) NoVariable _ (lt→ltb x t.shape.count hx)
      (pass (ltb v (t.shape.size x)) NoValue _ (lt→ltb v (t.shape.size x) hv) (room_from (asks (restrict f x v)) room)))
  granted_from (exchange p) (h, room) = pass (ltb (suc p) t.shape.count) NoPlace _ (lt→ltb (suc p) t.shape.count h) (room_from (exchange p) room)
