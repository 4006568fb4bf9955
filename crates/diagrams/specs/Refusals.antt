-- When a call is refused, and with which number: computed call by call. Assumes nothing.
use Rattle.std.specs.Prelude.{◌≡◌, ℕ, suc, ◌+◌, ◌<◌, ◌≤◌, Bool, cond, ◌&&◌, ◌==◌, nat_le, nat_lt}
use Rattle.mvl.specs.declared.refusal.Refusal.{Refusal}
use Rattle.mvl.specs.declared.refusal.Refusal.TheVariants.{NoEdge, NoVariable, NoValue, NoLabel, WrongRadix, TooWide, NoPlace, NoRoom}
use Rattle.mvl.specs.Numbers.{number}
use Rattle.mvl.specs.Labels.{Meaning, home}
use Rattle.diagrams.specs.Shape.{variable_at}
use Rattle.diagrams.specs.Diagram.{Target, terminal, node, Edge, Nodes, population, Of}
use Rattle.diagrams.specs.Build.{lacking}
use Rattle.diagrams.specs.Exchange.{missing}
use Rattle.diagrams.specs.Calls.{Table, constant, variable, literal, turn, apply, restrict, Call, asks, exchange, asked}

-- the test whether an edge is one of the table
abbrev pub is_target : Meaning → Nodes → Target → Bool
is_target m d (terminal v) = nat_lt v m.radix && home m v == v
is_target m d (node r) = nat_lt r d.bound && d.held r

abbrev pub is_edge : Meaning → Nodes → Edge → Bool
is_edge m d e = nat_lt e.label m.labels && is_target m d e.target

-- rest where the test passes, else the number of refusal k
abbrev pub unless : Bool → Refusal → ℕ → ℕ
unless b k rest = cond b rest (number k)

-- there is room for k nodes more
abbrev pub fits : Table → ℕ → Bool
fits t k = nat_le (population t.nodes + k) t.capacity

-- the number of nodes to be added
abbrev pub adding : Meaning → Table → Call → ℕ
adding m t (asks q) = lacking m t.shape t.nodes (asked m t q)
adding m t (exchange p) = missing m t.shape t.nodes (variable_at t.shape p) (variable_at t.shape (suc p))

-- refused where they do not fit
abbrev pub room_for : Meaning → Table → Call → ℕ
room_for m t c = unless (fits t (adding m t c)) NoRoom 0

-- the number with which a call is refused, the smallest that applies; 0 where it is granted
abbrev pub refusal : Meaning → Table → Call → ℕ
refusal m t (asks (constant v)) = unless (nat_lt v m.radix) NoValue 0
refusal m t (asks (variable x)) =
    unless (nat_lt x t.shape.count) NoVariable (unless (nat_le (t.shape.size x) m.radix) TooWide (room_for m t (asks (variable x))))
refusal m t (asks (literal x v)) =
    unless (nat_lt x t.shape.count) NoVariable (unless (nat_lt v (t.shape.size x)) NoValue (room_for m t (asks (literal x v))))
refusal m t (asks (turn e k)) = unless (is_edge m t.nodes e) NoEdge (unless (nat_lt k m.labels) NoLabel 0)
refusal m t (asks (apply r op e f)) =
    unless (is_edge m t.nodes e && is_edge m t.nodes f) NoEdge (unless (r == m.radix) WrongRadix (room_for m t (asks (apply r op e f))))
refusal m t (asks (restrict e x v)) =
    unless (is_edge m t.nodes e) NoEdge (unless (nat_lt x t.shape.count) NoVariable (unless (nat_lt v (t.shape.size x)) NoValue (room_for m t (asks (restrict e x v)))))
refusal m t (exchange p) =
    unless (nat_lt (suc p) t.shape.count) NoPlace (room_for m t (exchange p))

-- there is room for what a call adds
abbrev pub Room : Meaning → Table → Call → Type 0
Room m t c = population t.nodes + adding m t c ≤ t.capacity

-- what holds where a call is granted
abbrev pub Granted : Meaning → Table → Call → Type 0
Granted m t (asks (constant v)) = v < m.radix
Granted m t (asks (variable x)) = (x < t.shape.count) × (t.shape.size x ≤ m.radix) × Room m t (asks (variable x))
Granted m t (asks (literal x v)) = (x < t.shape.count) × (v < t.shape.size x) × Room m t (asks (literal x v))
Granted m t (asks (turn e k)) = Of m t.nodes e × (k < m.labels)
Granted m t (asks (apply r op e f)) = Of m t.nodes e × Of m t.nodes f × (r ≡ m.radix) × Room m t (asks (apply r op e f))
Granted m t (asks (restrict e x v)) = Of m t.nodes e × (x < t.shape.count) × (v < t.shape.size x) × Room m t (asks (restrict e x v))
Granted m t (exchange p) = (suc p < t.shape.count) × Room m t (exchange p)
