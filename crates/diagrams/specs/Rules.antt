-- The rules by which a call is refused, each by itself, and the smallest number that applies. Assumes nothing.
use Rattle.std.specs.Prelude.{ℕ, zero, suc, ◌-◌, min, Bool, false, cond, not, ◌||◌, ltb, List, [], ◌∷◌, ◌==◌, nat_lt}
use Rattle.mvl.specs.declared.refusal.Refusal.{Refusal}
use Rattle.mvl.specs.declared.refusal.Refusal.TheVariants.{NoEdge, NoVariable, NoValue, NoLabel, WrongRadix, TooWide, NoPlace, NoRoom}
use Rattle.mvl.specs.Numbers.{number}
use Rattle.mvl.specs.Labels.{Meaning}
use Rattle.diagrams.specs.Diagram.{Edge, population}
use Rattle.diagrams.specs.Calls.{Table, constant, variable, literal, turn, apply, restrict, Call, asks, exchange}
use Rattle.diagrams.specs.Refusals.{is_edge, adding}

-- some member passes
abbrev any : {A : Type 0} → (A → Bool) → List A → Bool
any p [] = false
any p (x ∷ xs) = p x || any p xs

-- what is handed in: edges, variables, values with the number that each has to be below, labels, the radix of an operation
abbrev edges : Call → List Edge
edges (asks (constant v)) = []
edges (asks (variable x)) = []
edges (asks (literal x v)) = []
edges (asks (turn e k)) = e ∷ []
edges (asks (apply r op e f)) = e ∷ f ∷ []
edges (asks (restrict e x v)) = e ∷ []
edges (exchange p) = []

abbrev variables : Call → List ℕ
variables (asks (constant v)) = []
variables (asks (variable x)) = x ∷ []
variables (asks (literal x v)) = x ∷ []
variables (asks (turn e k)) = []
variables (asks (apply r op e f)) = []
variables (asks (restrict e x v)) = x ∷ []
variables (exchange p) = []

abbrev values : Meaning → Table → Call → List (ℕ × ℕ)
values m t (asks (constant v)) = (v, m.radix) ∷ []
values m t (asks (variable x)) = []
values m t (asks (literal x v)) = (v, t.shape.size x) ∷ []
values m t (asks (turn e k)) = []
values m t (asks (apply r op e f)) = []
values m t (asks (restrict e x v)) = (v, t.shape.size x) ∷ []
values m t (exchange p) = []

abbrev labels : Call → List ℕ
labels (asks (constant v)) = []
labels (asks (variable x)) = []
labels (asks (literal x v)) = []
labels (asks (turn e k)) = k ∷ []
labels (asks (apply r op e f)) = []
labels (asks (restrict e x v)) = []
labels (exchange p) = []

abbrev radixes : Call → List ℕ
radixes (asks (constant v)) = []
radixes (asks (variable x)) = []
radixes (asks (literal x v)) = []
radixes (asks (turn e k)) = []
radixes (asks (apply r op e f)) = r ∷ []
radixes (asks (restrict e x v)) = []
radixes (exchange p) = []

-- variables asked for as functions, and places to be exchanged with the next
abbrev asked_for : Call → List ℕ
asked_for (asks (constant v)) = []
asked_for (asks (variable x)) = x ∷ []
asked_for (asks (literal x v)) = []
asked_for (asks (turn e k)) = []
asked_for (asks (apply r op e f)) = []
asked_for (asks (restrict e x v)) = []
asked_for (exchange p) = []

abbrev places : Call → List ℕ
places (asks q) = []
places (exchange p) = p ∷ []

-- each refusal that concerns these calls, and whether it applies; a rule that reads the size of a variable that is none says nothing, but then the smaller
-- `NoVariable` applies
abbrev pub rules : Meaning → Table → Call → List (Refusal × Bool)
rules m t c =
    (NoEdge, any (λ e. not (is_edge m t.nodes e)) (edges c))
    ∷ (NoVariable, any (λ x. not (nat_lt x t.shape.count)) (variables c))
    ∷ (NoValue, any (λ v. not (nat_lt v.0 v.1)) (values m t c))
    ∷ (NoLabel, any (λ k. not (nat_lt k m.labels)) (labels c))
    ∷ (WrongRadix, any (λ r. not (r == m.radix)) (radixes c))
    ∷ (TooWide, any (λ x. ltb m.radix (t.shape.size x)) (asked_for c))
    ∷ (NoPlace, any (λ p. not (nat_lt (suc p) t.shape.count)) (places c))
    ∷ (NoRoom, nat_lt (t.capacity - population t.nodes) (adding m t c))
    ∷ []

-- the smaller of two numbers, of which 0 stands for none
abbrev pub smaller : ℕ → ℕ → ℕ
smaller j zero = j
smaller j (suc k) = min j (suc k)

-- the smallest number among the refusals that apply, wherever it stands in the list; 0 where none applies
abbrev pub smallest : List (Refusal × Bool) → ℕ
smallest [] = 0
smallest ((k, applies) ∷ rest) = cond applies (smaller (number k) (smallest rest)) (smallest rest)
