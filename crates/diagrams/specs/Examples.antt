-- Worked examples of the definitions, as tests. Assumes nothing.
use Rattle.std.specs.Prelude.{ℕ, Bool, true, false, cond, ◌&&◌, List, [], ◌∷◌, ◌==◌, nat_eq}
use Rattle.mvl.specs.declared.refusal.Refusal.{Refusal}
use Rattle.mvl.specs.declared.refusal.Refusal.TheVariants.{NoValue, TooWide, NoRoom}
use Rattle.mvl.specs.Numbers.{number}
use Rattle.mvl.specs.Search.{all_below}
use Rattle.mvl.specs.Labels.{Meaning}
use Rattle.mvl.specs.Labellings.{plain, complement, cyclic}
use Rattle.mvl.specs.Operations.{Binary, minimum, turned}
use Rattle.diagrams.specs.Shape.{Shape}
use Rattle.diagrams.specs.Diagram.{Target, terminal, node, Edge, edge_to, same_edge, Nodes, population, visits, value, size_of}
use Rattle.diagrams.specs.Make.{is_node}
use Rattle.diagrams.specs.Calls.{Table, Query, constant, variable, literal, turn, apply, restrict, Call, asks, exchange}
use Rattle.diagrams.specs.Refusals.{is_edge}
use Rattle.diagrams.specs.Runs.{Answer, edge, done, refused}
use Rattle.diagrams.specs.Perform.{empty, perform}

-- one variable, and two, of the given sizes, in their order
abbrev one : ℕ → Shape
one x = record { count = 1; size = λ i. x; place = λ i. i }

abbrev two : ℕ → ℕ → Shape
two x y = record { count = 2; size = λ i. cond (i == 0) x y; place = λ i. i }

-- the assignment of two variables, and an edge to a terminal
abbrev at : ℕ → ℕ → ℕ → ℕ
at x y i = cond (i == 0) x y

abbrev on : ℕ → ℕ → Edge
on k v = edge_to k (terminal v)

-- queries on a table, an operation by its meaning
abbrev ask : Meaning → Table → Query → Answer × Table
ask m t q = perform m t (asks q)

abbrev apply_to : Binary → Edge → Edge → Query
apply_to o e f = apply o.radix o.answer e f

-- the edge answered, for the calls that follow; where there is none, an edge of no table
abbrev edge_of : Answer × Table → Edge
edge_of p = elim p.0 [ edge e ↦ e | done ↦ on 9 9 | refused k ↦ on 9 9 ]

-- the answer is an edge, and one of the table after the call
abbrev answered : Meaning → Answer × Table → Bool
answered m p = elim p.0 [ edge e ↦ is_edge m p.1.nodes e | done ↦ false | refused k ↦ false ]

-- it is this edge
abbrev answers : Meaning → Answer × Table → Edge → Bool
answers m p e = answered m p && same_edge (edge_of p) e

-- the call was done, with no edge to answer
abbrev is_done : Answer × Table → Bool
is_done p = elim p.0 [ edge e ↦ false | done ↦ true | refused k ↦ false ]

-- two tables are the same: their capacities, variables, places and nodes
abbrev same_node : Shape → Nodes → Nodes → ℕ → Bool
same_node s d g r = cond (d.held r) (is_node s g (d.variable r) (d.edge r) r) (cond (g.held r) false true)

abbrev same_table : Table → Table → Bool
same_table t u =
    (t.capacity == u.capacity) && (t.shape.count == u.shape.count
    && (all_below t.shape.count (λ x. (t.shape.size x == u.shape.size x) && t.shape.place x == u.shape.place x)
    && (t.nodes.bound == u.nodes.bound && all_below t.nodes.bound (same_node t.shape t.nodes u.nodes))))

-- the answer is this refusal, and the table is left as it was
abbrev refuses : Table → Answer × Table → Refusal → Bool
refuses before p why = elim p.0 [ edge e ↦ false | done ↦ false | refused k ↦ (k == number why) && same_table before p.1 ]

-- what an edge gives at (x, y), over how many nodes, and its size
abbrev read : Meaning → Table → Edge → ℕ → ℕ → ℕ
read m t e x y = value m t.shape t.nodes e (at x y)

abbrev passed_over : Table → Edge → ℕ → ℕ → ℕ
passed_over t e x y = visits t.nodes t.shape.count e.target (at x y)

abbrev nodes_of : Table → Edge → ℕ
nodes_of t e = size_of t.shape t.nodes e

-- a target is a node of variable x with the edges es
abbrev leads_to : Table → Target → ℕ → (ℕ → Edge) → Bool
leads_to t (terminal v) x es = false
leads_to t (node r) x es = is_node t.shape t.nodes x es r

-- table X, of capacity k: variables of sizes 3 and 2. With p = 3 and the cyclic labels, the calls made on it in turn: variable 0, literal 1=1, and their MIN
abbrev pub X : ℕ → Table
X k = empty (two 3 2) k

abbrev after_variable : ℕ → Answer × Table
after_variable k = ask (cyclic 3) (X k) (variable 0)

abbrev after_literal : ℕ → Answer × Table
after_literal k = ask (cyclic 3) (after_variable k).1 (literal 1 1)

abbrev after_min : ℕ → Answer × Table
after_min k = ask (cyclic 3) (after_literal k).1 (apply_to (minimum 3) (edge_of (after_variable k)) (edge_of (after_literal k)))

-- at capacity 8: the edges of the three, and the table after them
abbrev x0 : Edge
x0 = edge_of (after_variable 8)

abbrev l11 : Edge
l11 = edge_of (after_literal 8)

abbrev least_of : Edge
least_of = edge_of (after_min 8)

abbrev M : Table
M = (after_min 8).1

-- variable 0 turned by label 1, literal 0=0, and the exchange at place 0
abbrev turned_by_1 : Answer × Table
turned_by_1 = ask (cyclic 3) (after_variable 8).1 (turn x0 1)

abbrev l00 : Answer × Table
l00 = ask (cyclic 3) (X 8) (literal 0 0)

abbrev pub after_exchange : Answer × Table
after_exchange = perform (cyclic 3) M (exchange 0)

-- one variable of size 4, more than the radix 3 has values
abbrev wide : Table
wide = empty (one 4) 8

-- MIN turned by label 1 of the complement, p = 4, and its diagram
abbrev turned_min : Binary
turned_min = turned (minimum 4) (complement 4) 1 1 1

abbrev C₁ : Answer × Table
C₁ = ask (complement 4) (empty (two 4 4) 20) (variable 0)

abbrev C₂ : Answer × Table
C₂ = ask (complement 4) C₁.1 (variable 1)

abbrev C₃ : Answer × Table
C₃ = ask (complement 4) C₂.1 (apply_to turned_min (edge_of C₁) (edge_of C₂))

-- every test passes
abbrev pub every : List Bool → Bool
every [] = true
every (b ∷ bs) = b && every bs

-- the examples
abbrev pub examples : List Bool
examples =
    -- constant 2 in X is label 2 on terminal 0, and with plain labels label 0 on terminal 2
    answers (cyclic 3) (ask (cyclic 3) (X 8) (constant 2)) (on 2 0)
    ∷ answers (plain 3) (ask (plain 3) (X 8) (constant 2)) (on 0 2)
    -- with complement labels, p = 4, it is label 1 on terminal 1
    ∷ answers (complement 4) (ask (complement 4) (X 8) (constant 2)) (on 1 1)
    -- p = 3 and one variable of size 4: it is no function, a literal of it is, and it has no value 4
    ∷ refuses wide (ask (cyclic 3) wide (variable 0)) TooWide
    ∷ answered (cyclic 3) (ask (cyclic 3) wide (literal 0 3))
    ∷ refuses wide (ask (cyclic 3) wide (literal 0 4)) NoValue
    -- the same with plain labels
    ∷ refuses wide (ask (plain 3) wide (variable 0)) TooWide
    ∷ answered (plain 3) (ask (plain 3) wide (literal 0 3))
    ∷ refuses wide (ask (plain 3) wide (literal 0 4)) NoValue
    -- literal 0=0 in X is label 2 on a node of variable 0 with labels 0, 1, 1, all to terminal 0
    ∷ answered (cyclic 3) l00
    ∷ ((edge_of l00).label == 2)
    ∷ leads_to l00.1 (edge_of l00).target 0 (λ i. on (cond (i == 0) 0 1) 0)
    -- variable 0 turned by 1 gives 0 at (2, 0) over one node
    ∷ answered (cyclic 3) turned_by_1
    ∷ (read (cyclic 3) turned_by_1.1 (edge_of turned_by_1) 2 0 == 0)
    ∷ (passed_over turned_by_1.1 (edge_of turned_by_1) 2 0 == 1)
    -- the MIN has size 3, and gives 2 at (2, 1) over two nodes and 0 at (0, 1) over one
    ∷ answered (cyclic 3) (after_variable 8)
    ∷ answered (cyclic 3) (after_literal 8)
    ∷ answered (cyclic 3) (after_min 8)
    ∷ (nodes_of M least_of == 3)
    ∷ (read (cyclic 3) M least_of 2 1 == 2)
    ∷ (passed_over M least_of 2 1 == 2)
    ∷ (read (cyclic 3) M least_of 0 1 == 0)
    ∷ (passed_over M least_of 0 1 == 1)
    -- after the exchange at 0, which puts variable 1 on top, it has size 2, and the same function
    ∷ is_done after_exchange
    ∷ (after_exchange.1.shape.place 0 == 1)
    ∷ (after_exchange.1.shape.place 1 == 0)
    ∷ is_edge (cyclic 3) after_exchange.1.nodes least_of
    ∷ (nodes_of after_exchange.1 least_of == 2)
    ∷ all_below 3 (λ x. all_below 2 (λ y. nat_eq (read (cyclic 3) after_exchange.1 least_of x y) (read (cyclic 3) M least_of x y)))
    -- the MIN restricted by 1=1 is the edge of variable 0, and by 1=0 constant 0
    ∷ answers (cyclic 3) (ask (cyclic 3) M (restrict least_of 1 1)) x0
    ∷ answers (cyclic 3) (ask (cyclic 3) M (restrict least_of 1 0)) (edge_of (ask (cyclic 3) M (constant 0)))
    ∷ answers (cyclic 3) (ask (cyclic 3) M (constant 0)) (on 0 0)
    -- capacity 4 grants the three calls and is then full; capacity 3 refuses the MIN, and two nodes remain
    ∷ answered (cyclic 3) (after_variable 4)
    ∷ answered (cyclic 3) (after_literal 4)
    ∷ answered (cyclic 3) (after_min 4)
    ∷ (population (after_min 4).1.nodes == 4)
    ∷ answered (cyclic 3) (after_variable 3)
    ∷ answered (cyclic 3) (after_literal 3)
    ∷ refuses (after_literal 3).1 (after_min 3) NoRoom
    ∷ (population (after_min 3).1.nodes == 2)
    -- the turned MIN answers 2 for (1, 2), and its diagram gives that
    ∷ (turned_min.answer 1 2 == 2)
    ∷ answered (complement 4) C₃
    ∷ (read (complement 4) C₃.1 (edge_of C₃) 1 2 == 2)
    ∷ []

-- the calls that lead to the table after the exchange
abbrev pub calls : List Call
calls = asks (variable 0) ∷ asks (literal 1 1) ∷ asks (apply_to (minimum 3) x0 l11) ∷ exchange 0 ∷ []
