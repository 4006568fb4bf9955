-- What a played script leaves. Assumes nothing.
use Rattle.std.specs.Prelude.{◌≡◌, ℕ, ◌<◌, ◌≤◌, List, [], ◌∷◌, Some, None, Ok, Err, vec_items, Option, Result, Vec}
use Rattle.std.specs.declared.alloc.Global.{Global}
use Rattle.scripts.specs.declared.command.Command.{Command}
use Rattle.scripts.specs.declared.session.Session.{Session}
use Rattle.scripts.specs.declared.entry.Entry.{Entry}
use Rattle.scripts.specs.declared.entry.Fault.{Fault}
use Rattle.scripts.specs.declared.entry.Fault.TheVariants.{Unread, Lacking, NoMemory}
use Rattle.scripts.specs.declared.entry.Failure.{Failure}
use Rattle.scripts.specs.Obeys.{Obeys, nothing_chosen}

-- a line has this fault in session s: where something is lacking, the session says so to a command
abbrev pub Faulty : Session → Fault → Type 0
Faulty s (Unread unread) = Unit {0}
Faulty s (Lacking missing) = (c : Command) × Obeys s c (Err missing) s
Faulty s NoMemory = Unit {0}

-- one line: an entry with its number and what the session answers, or none and no change
abbrev pub Steps : Session → ℕ → Result (Option Entry) Fault → Session → Type 0
Steps s n (Ok (Some e)) s' = (e.line ≡ n) × Obeys s e.command (Ok e.reply) s'
Steps s n (Ok None) s' = s' ≡ s
Steps s n (Err f) s' = Faulty s f

-- from session s, after line m, the entries are answered one after the other; then the session is t, and their lines go up to n at most
abbrev pub Played : Session → ℕ → List Entry → Session → ℕ → Type 0
Played s m [] t n = (t ≡ s) × (m ≤ n)
Played s m (e ∷ es) t n =
    (m < e.line) × ((s' : Session) × Obeys s e.command (Ok e.reply) s' × Played s' e.line es t n)

-- line n is done in session t, after the entries of the lines before; where it has a fault, they do not matter any more
abbrev pub Adds : ℕ → Session → List Entry → Result (Unit {0}) Fault → Session → List Entry → Type 0
Adds n t es (Ok done) t' es' = (m : ℕ) → m < n → Played nothing_chosen 0 es t m → Played nothing_chosen 0 es' t' n
Adds n t es (Err f) t' es' = Faulty t f

-- the same, and the failure is that of line n
abbrev pub Advances : ℕ → Session → List Entry → Result (Unit {0}) Failure → Session → List Entry → Type 0
Advances n t es (Ok done) t' es' = Adds n t es (Ok done) t' es'
Advances n t es (Err f) t' es' = (f.line ≡ n) × Adds n t es (Err f.fault) t' es'

-- lines up to the last are played, and a line after them fails
pub record Stopped (f : Failure) : Type 0 where
  pub entries : List Entry
  pub session : Session
  pub last : ℕ
  pub played : Played nothing_chosen 0 entries session last
  pub after : last < f.line
  pub faulty : Faulty session f.fault

-- a whole script: nothing is chosen at first, and lines are counted from 1
abbrev pub Runs : Result (Vec Entry Global) Failure → Type 0
Runs (Ok v) = (t : Session) × ((n : ℕ) × Played nothing_chosen 0 (vec_items v) t n)
Runs (Err f) = Stopped f
