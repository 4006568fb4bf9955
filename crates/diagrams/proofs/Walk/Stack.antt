-- A diagram built with a stack: each piece awaits the edge for one value of its variable. Assumes nothing.
use Rattle.std.proofs.Common.{◌≡◌, ℕ, suc, ◌+◌, ◌<◌, ◌≤◌, sym, refl, ◌∙◌, subst, arith, below_more}
use Rattle.mvl.specs.Labels.{Meaning, Laws}
use Rattle.diagrams.specs.Shape.{Shape, ShapeLaws, updated}
use Rattle.diagrams.specs.Functions.{Function, Agree, Ranged, Depends, Inside}
use Rattle.diagrams.specs.Diagram.{Edge, Nodes, value, Ordered}
use Rattle.diagrams.specs.Make.{Keeps, Asks, Makes}
use Rattle.diagrams.specs.Build.{EdgeFor}
use Rattle.diagrams.proofs.Reading.Assignments.{updated_own, updated_assigns}
use Rattle.diagrams.proofs.Least.Inside.{inside_itself, inside_same, inside_lower, inside_fixed}
use Rattle.diagrams.proofs.Build.Gain.{fixed_ranged, fixed_depends, edge_for_kept}

-- a task, the variable of its node, how many of the node's edges are made, and these
pub record Piece (A : Type 0) : Type 0 where
  pub task : A
  pub variable : ℕ
  pub done : ℕ
  pub edges : ℕ → Edge

-- a piece for task t at variable y, with no edge yet
pub record Opens {A : Type 0} (p : Piece A) (t : A) (y : ℕ) : Type 0 where
  pub task : p.task ≡ t
  pub variable : p.variable ≡ y
  pub done : p.done ≡ 0

-- q is p with r for its next edge
pub record Extends {A : Type 0} (p q : Piece A) (r : Edge) : Type 0 where
  pub task : q.task ≡ p.task
  pub variable : q.variable ≡ p.variable
  pub done : q.done ≡ p.done + 1
  pub before : (i : ℕ) → i < p.done → q.edges i ≡ p.edges i
  pub last : q.edges p.done ≡ r

-- two stacks are the same below k
abbrev pub SameBelow : {A : Type 0} → ℕ → (ℕ → Piece A) → (ℕ → Piece A) → Type 0
SameBelow k ps qs = (j : ℕ) → j < k → qs j ≡ ps j

-- stack qs is ps with one edge more in piece k
pub record Fills {A : Type 0} (ps qs : ℕ → Piece A) (k : ℕ) (r : Edge) : Type 0 where
  pub same : SameBelow k ps qs
  pub extends : Extends (ps k) (qs k) r

-- stack qs is ps with a new piece above piece k
pub record Pushes {A : Type 0} (ps qs : ℕ → Piece A) (k : ℕ) (t : A) (y : ℕ) : Type 0 where
  pub same : SameBelow (suc k) ps qs
  pub opens : Opens (qs (suc k)) t y

-- R is the function of a task, Fit says what is known of a task and its variable, and F is the function that is built
module _ {A : Type 0} (m : Meaning) (s : Shape) (F : Function) (R : A → Function) (Fit : A → ℕ → Type 0) where
  -- a piece for g, from place t on
  pub record Top (d : Nodes) (p : Piece A) (t : ℕ) (g : Function) : Type 0 where
    pub within : p.variable < s.count
    pub low : t ≤ s.place p.variable
    pub fit : Fit p.task p.variable
    pub means : Agree s (R p.task) g
    pub depends : Depends s (s.place p.variable) g
    pub edges_for : (i : ℕ) → i < p.done → EdgeFor m s (suc (s.place p.variable)) d (λ a. g (updated a p.variable i)) (p.edges i)

  -- the first k pieces await an edge for g that leads to place t or below
  pub data Hole (d : Nodes) (ps : ℕ → Piece A) : ℕ → ℕ → Function → Type 0 where
    bottom : Hole d ps 0 0 F
    deeper : {k t : ℕ} {g : Function} → Hole d ps k t g → Top d (ps k) t g → (ps k).done < s.size (ps k).variable
        → Hole d ps (suc k) (suc (s.place (ps k).variable)) (λ a. g (updated a (ps k).variable (ps k).done))

  -- the piece under a hole
  pub record Under (d : Nodes) (ps : ℕ → Piece A) (j t : ℕ) (g : Function) : Type 0 where
    pub place : ℕ
    pub function : Function
    pub hole : Hole d ps j place function
    pub top : Top d (ps j) place function
    pub less : (ps j).done < s.size (ps j).variable
    pub place_is : t ≡ suc (s.place (ps j).variable)
    pub function_is : g ≡ (λ a. function (updated a (ps j).variable (ps j).done))

module _ {A : Type 0} {m : Meaning} {s : Shape} {F : Function} {R : A → Function} {Fit : A → ℕ → Type 0} where
  -- a table that grows
  module _ {d d' : Nodes} (o : Ordered m s d) (keeps : Keeps s d d') where
    pub top_kept : {p : Piece A} {t : ℕ} {g : Function} → Top m s F R Fit d p t g → Top m s F R Fit d' p t g
    top_kept top = record {
      within = top.within;
      low = top.low;
      fit = top.fit;
      means = top.means;
      depends = top.depends;
      edges_for = λ i h. edge_for_kept o keeps (top.edges_for i h);
    }

    pub hole_kept : {ps : ℕ → Piece A} {k t : ℕ} {g : Function} → Hole m s F R Fit d ps k t g → Hole m s F R Fit d' ps k t g
    hole_kept bottom = bottom
    hole_kept (deeper hole top h) = deeper (hole_kept hole) (top_kept top) h

  module _ {d : Nodes} where
    -- pieces above do not count
    pub hole_same : {ps : ℕ → Piece A} (qs : ℕ → Piece A) {k t : ℕ} {g : Function} → SameBelow k ps qs → Hole m s F R Fit d ps k t g → Hole m s F R Fit d qs k t g
    hole_same qs same bottom = bottom
    hole_same {ps} qs same (deeper {k} {t} {g} hole top h) =
        let e : ps k ≡ qs k = sym (same k (omega arith)) in
        subst (λ (p : Piece A). Hole m s F R Fit d qs (suc k) (suc (s.place p.variable)) (λ a. g (updated a p.variable p.done))) (sym e)
        (deeper (hole_same qs (λ j b. same j (omega arith)) hole) (subst (λ (p : Piece A). Top m s F R Fit d p t g) e top)
        (subst (λ (p : Piece A). p.done < s.size p.variable) e h))

    module _ {ps : ℕ → Piece A} where
      -- the stack is no higher than the places that it has passed
      pub hole_deep : {k t : ℕ} {g : Function} → Hole m s F R Fit d ps k t g → k ≤ t
      hole_deep bottom = omega arith
      hole_deep (deeper hole top h) = omega (arith, hole_deep hole, top.low)

      -- what is awaited below everything
      pub hole_bottom : {k t : ℕ} {g : Function} → k ≡ 0 → Hole m s F R Fit d ps k t g → g ≡ F
      hole_bottom e bottom = refl
      hole_bottom e (deeper hole top h) = absurd (omega arith)

      -- what is awaited above a piece is its next edge
      pub hole_under : {k j t : ℕ} {g : Function} → k ≡ suc j → Hole m s F R Fit d ps k t g → Under m s F R Fit d ps j t g
      hole_under e bottom = absurd (omega arith)
      hole_under {j = j} e (deeper {k} {t} {g} hole top h) =
          let same : k ≡ j = omega arith in
          subst (λ i. Under m s F R Fit d ps i (suc (s.place (ps k).variable)) (λ a. g (updated a (ps k).variable (ps k).done))) same
          (record { place = t; function = g; hole = hole; top = top; less = h; place_is = refl; function_is = refl })

    -- one edge more
    pub top_more : {p q : Piece A} {r : Edge} {t : ℕ} {g : Function} → Extends p q r
        → EdgeFor m s (suc (s.place p.variable)) d (λ a. g (updated a p.variable p.done)) r → Top m s F R Fit d p t g → Top m s F R Fit d q t g
    top_more {p} {q} {r} {t} {g} more last top = record {
      within = rw more.variable top.within;
      low = rw more.variable top.low;
      fit = rw (more.variable, more.task) top.fit;
      means = rw more.task top.means;
      depends = rw more.variable top.depends;
      edges_for =
          subst (λ y. (i : ℕ) → i < q.done → EdgeFor m s (suc (s.place y)) d (λ a. g (updated a y i)) (q.edges i)) (sym more.variable)
          (subst (λ n. (i : ℕ) → i < n → EdgeFor m s (suc (s.place p.variable)) d (λ a. g (updated a p.variable i)) (q.edges i)) (sym more.done)
          (below_more _ _ (λ i h. rw (more.before i h) (top.edges_for i h)) (rw more.last last)));
    }

-- what is awaited is inside the function that is built
pub record Awaited (m : Meaning) (s : Shape) (F : Function) (t : ℕ) (g : Function) : Type 0 where
  pub inside : Inside m s t g F
  pub depends : Depends s t g
  pub ranged : Ranged m s g

module _ {A : Type 0} {m : Meaning} (l : Laws m) {s : Shape} (sl : ShapeLaws s) {F : Function} (ranged : Ranged m s F) (dep : Depends s 0 F)
    {R : A → Function} {Fit : A → ℕ → Type 0} {d : Nodes} {ps : ℕ → Piece A} where
  pub hole_awaits : {k t : ℕ} {g : Function} → Hole m s F R Fit d ps k t g → Awaited m s F t g
  hole_awaits bottom = record { inside = inside_itself l sl F ranged; depends = dep; ranged = ranged }
  hole_awaits (deeper {k} {t} {g} hole top h) =
      let before = hole_awaits hole in
      let x = (ps k).variable in
      record {
        inside = inside_fixed l sl dep x top.within (ps k).done h (inside_lower l sl top.low top.depends before.inside);
        depends = fixed_depends sl g x (ps k).done top.within h top.depends;
        ranged = fixed_ranged m s g x (ps k).done h before.ranged;
      }

  -- a piece with all its edges: what its node is to be
  module _ {k t : ℕ} {g : Function} (hole : Hole m s F R Fit d ps k t g) (top : Top m s F R Fit d (ps k) t g) (all : (ps k).done ≡ s.size (ps k).variable) where
    pub full_asks : Asks m s d (ps k).variable (ps k).edges
    full_asks = record {
      within = top.within;
      of = λ i h. (top.edges_for i (omega arith)).of;
      below = λ i h. (top.edges_for i (omega arith)).high;
    }

    -- its edges, taken at the values of its variable, give g
    pub full_reads : Agree s (λ a. value m s d ((ps k).edges (a (ps k).variable)) a) g
    full_reads a assigns =
        let x = (ps k).variable in
        let h = assigns x top.within in
        (top.edges_for (a x) (omega arith)).function a assigns
        ∙ top.depends (updated a x (a x)) a (updated_assigns s a x (a x) assigns h) assigns (λ y hy low. updated_own a x y)

    -- so they are inside F
    pub full_inside : Inside m s (s.place (ps k).variable) (λ a. value m s d ((ps k).edges (a (ps k).variable)) a) F
    full_inside = inside_same l sl full_reads (inside_lower l sl top.low top.depends (hole_awaits hole).inside)

    -- the node that is made serves the piece below
    pub full_made : {d' : Nodes} {e : Edge} → Makes m s d (ps k).variable (ps k).edges d' e → EdgeFor m s t d' g e
    full_made made = record {
      of = made.of;
      high = omega (arith, made.high, top.low);
      function = λ a assigns. made.function a assigns ∙ full_reads a assigns;
    }
