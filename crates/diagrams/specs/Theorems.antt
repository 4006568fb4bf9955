-- The theorems of this crate. Each is the contract of a function of src/lib.rt, so that the check asks for its proof. Assumes nothing.
use Rattle.std.specs.Prelude.{◌≡◌, ℕ, ◌+◌, ◌<◌, ◌≤◌, true, ◌↔◌, List}
use Rattle.mvl.specs.Labels.{Meaning, Laws}
use Rattle.mvl.specs.Labellings.{cyclic}
use Rattle.diagrams.specs.Shape.{Shape, ShapeLaws, Neighbours, swapped}
use Rattle.diagrams.specs.Functions.{Function, Agree, Ranged, Depends}
use Rattle.diagrams.specs.Diagram.{Edge, Nodes, Has, population, value, Over, Of, Ordered, Reduced, size_of}
use Rattle.diagrams.specs.Build.{Gains, build, lacking}
use Rattle.diagrams.specs.Exchange.{Exchanged, missing, exchanged}
use Rattle.diagrams.specs.Calls.{Table, Sound, Empty, Call, exchange, Proper, AllProper}
use Rattle.diagrams.specs.Refusals.{refusal, Granted}
use Rattle.diagrams.specs.Rules.{rules, smallest}
use Rattle.diagrams.specs.Runs.{done, Step, Answered, Run, SameCard, Kept}
use Rattle.diagrams.specs.Perform.{perform, play}
use Rattle.diagrams.specs.Examples.{X, after_exchange, every, examples, calls}

-- in a reduced table, edges of equal functions are one edge
abbrev pub Canonical : Type 0
Canonical = (m : Meaning) → Laws m → (s : Shape) → ShapeLaws s → (d : Nodes) → Reduced m s d
    → (e f : Edge) → Of m d e → Of m d f → Agree s (value m s d e) (value m s d f) → e ≡ f

-- no diagram of a function in the same order and with the same labels has fewer nodes than the reduced one: of g only the first rule is asked
abbrev pub Least : Type 0
Least = (m : Meaning) → Laws m → (s : Shape) → ShapeLaws s → (d : Nodes) → Reduced m s d → (g : Nodes) → Ordered m s g
    → (e f : Edge) → Of m d e → Over m g f → Agree s (value m s g f) (value m s d e) → size_of s d e ≤ size_of s g f

-- every function of the variables with values below the radix has a diagram in an extension of every reduced table
abbrev pub BuildGains : Type 0
BuildGains = (m : Meaning) → Laws m → (s : Shape) → ShapeLaws s → (d : Nodes) → Reduced m s d
    → (f : Function) → Ranged m s f → Depends s 0 f → Gains m s d f (build m s d f).0 (build m s d f).1

-- however the diagram is gained, the number of nodes added is the number that the table lacked
abbrev pub GainsCount : Type 0
GainsCount = (m : Meaning) → Laws m → (s : Shape) → ShapeLaws s → (d : Nodes) → Reduced m s d
    → (f : Function) (d' : Nodes) (e : Edge) → Gains m s d f d' e → population d' ≡ population d + lacking m s d f

-- two neighbouring variables can be exchanged
abbrev pub ExchangeExists : Type 0
ExchangeExists = (m : Meaning) → Laws m → (s : Shape) → ShapeLaws s → (d : Nodes) → Reduced m s d
    → (u w : ℕ) → Neighbours s u w → Exchanged m s d u w (exchanged m s d u w)

-- an exchange keeps the rules, in the new order
abbrev pub ExchangeKeepsRules : Type 0
ExchangeKeepsRules = (m : Meaning) → Laws m → (s : Shape) → ShapeLaws s → (d : Nodes) → Reduced m s d
    → (u w : ℕ) (d' : Nodes) → Exchanged m s d u w d' → ShapeLaws (swapped s u w) × Reduced m (swapped s u w) d'

-- an exchange keeps every edge and its function
abbrev pub ExchangeKeepsFunctions : Type 0
ExchangeKeepsFunctions = (m : Meaning) → Laws m → (s : Shape) → ShapeLaws s → (d : Nodes) → Reduced m s d
    → (u w : ℕ) (d' : Nodes) → Exchanged m s d u w d'
    → (e : Edge) → Of m d e → Of m d' e × Agree s (value m (swapped s u w) d' e) (value m s d e)

-- however the exchange is done, the number of nodes added is the number that was missing
abbrev pub ExchangeCount : Type 0
ExchangeCount = (m : Meaning) → Laws m → (s : Shape) → ShapeLaws s → (d : Nodes) → Reduced m s d
    → (u w : ℕ) (d' : Nodes) → Exchanged m s d u w d' → population d' ≡ population d + missing m s d u w

-- a second exchange of the same two variables adds no node
abbrev pub ExchangeAgain : Type 0
ExchangeAgain = (m : Meaning) → Laws m → (s : Shape) → ShapeLaws s → (d : Nodes) → Reduced m s d
    → (u w : ℕ) (d' : Nodes) → Exchanged m s d u w d' → (d'' : Nodes) → Exchanged m (swapped s u w) d' w u d''
    → (q : ℕ) → Has d'' q → Has d' q

-- a call is refused with the smallest among the numbers of all refusals whose rule applies, and granted (0) where none does; each rule is said by itself,
-- and `smallest` is their minimum in whatever order they are listed
abbrev pub RefusalSmallest : Type 0
RefusalSmallest = (m : Meaning) → Laws m → (t : Table) → Sound m t → (c : Call) → refusal m t c ≡ smallest (rules m t c)

-- a call is granted exactly where what was handed in is in range and there is room
abbrev pub Grants : Type 0
Grants = (m : Meaning) (t : Table) (c : Call) → (refusal m t c ≡ 0) ↔ Granted m t c

-- every call has its step, the one that is computed; an operation handed in has to answer below its radix, since no diagram has other values
abbrev pub Performs : Type 0
Performs = (m : Meaning) → Laws m → (t : Table) → Sound m t → (c : Call) → Proper c → Step m t c (perform m t c).0 (perform m t c).1

-- every list of such calls has its run
abbrev pub Plays : Type 0
Plays = (m : Meaning) → Laws m → (t : Table) → Empty t → (cs : List Call) → AllProper cs → Run m t (play m t cs).0 (play m t cs).1

-- an exchange that was done can be done once more at the same place: it needs no room, however full the table is by then, it adds no node,
-- and every variable is back in its old place
abbrev pub ExchangeAgainGranted : Type 0
ExchangeAgainGranted = (m : Meaning) → Laws m → (t : Table) → Sound m t → (p : ℕ) (t' : Table) → Step m t (exchange p) done t'
    → (refusal m t' (exchange p) ≡ 0)
    × ((t'' : Table) → Step m t' (exchange p) done t''
    → (population t''.nodes ≡ population t'.nodes) × ((x : ℕ) → x < t.shape.count → t''.shape.place x ≡ t.shape.place x))

-- the law over runs: whatever was called on an empty table, the table keeps the rules within its capacity, every edge answered is kept,
-- and the capacity and the variables with their sizes stay; nothing is asked of the calls, a step says what it needs
abbrev pub RunsKeep : Type 0
RunsKeep = (m : Meaning) → Laws m → (t : Table) → Empty t → (xs : List Answered) (t' : Table) → Run m t xs t'
    → Sound m t' × Kept m t' xs × SameCard t t'

-- the same from any table that keeps the rules, and every edge that it had is kept with its function
abbrev pub RunsGoOn : Type 0
RunsGoOn = (m : Meaning) → Laws m → (t : Table) → Sound m t → (xs : List Answered) (t' : Table) → Run m t xs t'
    → Sound m t' × Kept m t' xs × SameCard t t'
    × ((e : Edge) → Of m t.nodes e → Of m t'.nodes e × Agree t'.shape (value m t'.shape t'.nodes e) (value m t.shape t.nodes e))

-- the worked examples hold, and the law over runs speaks of the table that they lead to
abbrev pub ExamplesHold : Type 0
ExamplesHold = (every examples ≡ true) × Empty (X 8) × Run (cyclic 3) (X 8) (play (cyclic 3) (X 8) calls).0 after_exchange.1
