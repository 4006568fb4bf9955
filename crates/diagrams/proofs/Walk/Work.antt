-- A walk with a stack, turn by turn: what holds of the table and the stack. Assumes nothing.
use Rattle.std.proofs.Common.{◌≡◌, ℕ, suc, ◌<◌, ◌≤◌, sym, refl, ap, ◌∙◌, subst, arith}
use Rattle.mvl.specs.Labels.{Meaning, Laws}
use Rattle.diagrams.specs.Shape.{Shape, ShapeLaws, updated}
use Rattle.diagrams.specs.Functions.{Function, Agree, Ranged, Depends}
use Rattle.diagrams.specs.Diagram.{Edge, Nodes, Reduced}
use Rattle.diagrams.specs.Build.{Gains, EdgeFor}
use Rattle.diagrams.specs.Walk.{Walk, Fair, Task, TaskOf, meant, task_level, child, Settles, Needs}
use Rattle.diagrams.proofs.Reading.Assignments.{updated_assigns}
use Rattle.diagrams.proofs.Build.Gain.{gains_known}
use Rattle.diagrams.proofs.Walk.Grow.{Growing, grows_from}
use Rattle.diagrams.proofs.Walk.Stack.{Piece, Opens, Fills, Pushes, Top, Hole, bottom, deeper, hole_same, hole_deep, top_more}
use Rattle.diagrams.proofs.Walk.Child.{child_of, child_low, child_means}
use Rattle.diagrams.proofs.Walk.Task.{meant_ranged, meant_depends}
use Rattle.diagrams.proofs.Walk.Larger.{meant_kept, child_kept, needs_kept, needs_back}

-- the next child of a piece
abbrev pub next : Meaning → Nodes → Piece Task → Task
next m d p = child m d p.variable p.done p.task

-- what a walk for task t₀ begins with
pub record Start (m : Meaning) (s : Shape) (d₀ : Nodes) (w : Walk) (t₀ : Task) : Type 0 where
  pub laws : Laws m
  pub shape_laws : ShapeLaws s
  pub reduced : Reduced m s d₀
  pub fair : Fair m s w
  pub task_of : TaskOf m d₀ t₀

-- the table d and the stack of pieces 0 to k: piece k is for what the pieces below await, and tasks are over the edges that there were at the start
pub record Working (m : Meaning) (s : Shape) (d₀ : Nodes) (w : Walk) (t₀ : Task) (d : Nodes) (ps : ℕ → Piece Task) (k : ℕ) : Type 0 where
  pub growing : Growing m s d₀ (meant m s d₀ w t₀) d
  pub place : ℕ
  pub function : Function
  pub hole : Hole m s (meant m s d₀ w t₀) (meant m s d₀ w) (Needs m s d₀ w) d ps k place function
  pub top : Top m s (meant m s d₀ w t₀) (meant m s d₀ w) (Needs m s d₀ w) d (ps k) place function
  pub few : (ps k).done ≤ s.size (ps k).variable

-- piece k lacks an edge, and r serves for it
pub record Serves (m : Meaning) (s : Shape) (d₀ : Nodes) (w : Walk) (t₀ : Task) (d : Nodes) (ps : ℕ → Piece Task) (k : ℕ) (r : Edge) : Type 0 where
  pub working : Working m s d₀ w t₀ d ps k
  pub less : (ps k).done < s.size (ps k).variable
  pub edge_for : EdgeFor m s (suc (s.place (ps k).variable)) d (λ a. working.function (updated a (ps k).variable (ps k).done)) r

-- it is filled in
pub working_fill : {m : Meaning} {s : Shape} {d₀ : Nodes} {w : Walk} {t₀ : Task} {d : Nodes} {ps qs : ℕ → Piece Task} {k : ℕ} {r : Edge}
    → Serves m s d₀ w t₀ d ps k r → Fills ps qs k r → Working m s d₀ w t₀ d qs k
working_fill {qs = qs} serves fills =
    let work = serves.working in
    let less = serves.less in
    let more = fills.extends in
    record {
      growing = work.growing;
      place = work.place;
      function = work.function;
      hole = hole_same qs fills.same work.hole;
      top = top_more more serves.edge_for work.top;
      few = rw (more.variable, more.done) (omega arith);
    }

module _ {m : Meaning} {s : Shape} {d₀ : Nodes} {w : Walk} {t₀ : Task} (st : Start m s d₀ w t₀) where
  -- the function that is built is one of the variables, with values below the radix
  pub start_ranged : Ranged m s (meant m s d₀ w t₀)
  start_ranged = meant_ranged st.laws st.shape_laws st.reduced w st.fair st.task_of

  pub start_depends : Depends s 0 (meant m s d₀ w t₀)
  start_depends = meant_depends st.laws st.shape_laws st.reduced w st.fair st.task_of 0 (omega arith)

  -- a first task that is settled is gained already
  pub settled_gains : {r : Edge} → Settles m s d₀ w t₀ r → Gains m s d₀ (meant m s d₀ w t₀) d₀ r
  settled_gains settles = gains_known st.reduced settles.of settles.means

  -- a new piece for g: its task needs a variable, and means g
  opened : {d : Nodes} {p : Piece Task} {t : Task} {y : ℕ} → Opens p t y → (place : ℕ) (g : Function) → Needs m s d₀ w t y → place ≤ s.place y
      → Agree s (meant m s d₀ w t) g → Top m s (meant m s d₀ w t₀) (meant m s d₀ w) (Needs m s d₀ w) d p place g
  opened {p = p} {y = y} opens place g needs low means =
      let none = opens.done in
      let top = needs.topmost in
      record {
        within = rw opens.variable needs.within;
        low = rw opens.variable low;
        fit = rw (opens.variable, opens.task) needs;
        means = rw opens.task means;
        depends = subst (λ z. Depends s (s.place z) g) (sym opens.variable) (λ a b ha hb same. sym (means a ha)
            ∙ meant_depends st.laws st.shape_laws st.reduced w st.fair needs.task_of (s.place y) (omega arith) a b ha hb same ∙ means b hb);
        edges_for = λ i h. absurd (omega arith);
      }

  -- the walk begins: one piece for the first task
  pub working_start : {ps : ℕ → Piece Task} {y : ℕ} → Needs m s d₀ w t₀ y → Opens (ps 0) t₀ y → Working m s d₀ w t₀ d₀ ps 0
  working_start needs opens =
      let none = opens.done in
      record {
        growing = grows_from (meant m s d₀ w t₀) st.reduced;
        place = 0;
        function = meant m s d₀ w t₀;
        hole = bottom;
        top = opened opens 0 (meant m s d₀ w t₀) needs (omega arith) (λ a assigns. refl);
        few = omega arith;
      }

  module _ {d : Nodes} {ps : ℕ → Piece Task} {k : ℕ} (work : Working m s d₀ w t₀ d ps k) where
    -- the stack is no higher than there are variables
    pub working_low : k < s.count
    working_low = omega (arith, hole_deep work.hole, work.top.low, st.shape_laws.place_within (ps k).variable work.top.within)

    -- what is known of the task at the top, in the table as it is
    pub top_needs : Needs m s d w (ps k).task (ps k).variable
    top_needs = needs_kept st.reduced.ordered work.growing.keeps w work.top.fit

    -- the piece at the top lacks an edge
    module _ (less : (ps k).done < s.size (ps k).variable) where
      pub done_few : (ps k).done < 4
      done_few = omega (arith, st.shape_laws.size_high (ps k).variable work.top.within)

      -- its next child, c, is over edges of the table and stands below it
      module _ {c : Task} (is : c ≡ next m d (ps k)) where
        pub next_of : TaskOf m d c
        next_of = rw is (child_of st.laws st.shape_laws work.growing.reduced (ps k).variable (ps k).done less top_needs.task_of)

        next_low : s.place (ps k).variable < task_level s d w c
        next_low = rw is (child_low st.laws st.shape_laws work.growing.reduced (ps k).variable (ps k).done less w top_needs)

        -- it is the child in the table at the start too, and means what is awaited
        then : c ≡ next m d₀ (ps k)
        then = is ∙ child_kept st.reduced.ordered work.growing.keeps (ps k).variable (ps k).done less work.top.fit.task_of

        then_of : TaskOf m d₀ c
        then_of = rw then (child_of st.laws st.shape_laws st.reduced (ps k).variable (ps k).done less work.top.fit.task_of)

        then_means : Agree s (meant m s d₀ w c) (λ a. work.function (updated a (ps k).variable (ps k).done))
        then_means a assigns =
            ap (λ (t : Task). meant m s d₀ w t a) then
            ∙ child_means st.laws st.shape_laws st.reduced (ps k).variable (ps k).done less w st.fair work.top.fit a assigns
            ∙ work.top.means (updated a (ps k).variable (ps k).done) (updated_assigns s a (ps k).variable (ps k).done assigns less)

        -- where an edge settles it, that serves
        pub settled_serves : {r : Edge} → Settles m s d w c r → Serves m s d₀ w t₀ d ps k r
        settled_serves settles = record {
          working = work;
          less = less;
          edge_for = record {
            of = settles.of;
            high = omega (arith, next_low, settles.high);
            function = λ a assigns.
                settles.means a assigns ∙ meant_kept st.reduced.ordered work.growing.keeps w st.fair then_of a assigns ∙ then_means a assigns;
          };
        }

        module _ {y : ℕ} (needs : Needs m s d w c y) where
          -- where it needs a variable, there is room for a piece
          pub push_low : suc k < s.count
          push_low = omega (arith, hole_deep work.hole, work.top.low, next_low, needs.topmost, st.shape_laws.place_within y needs.within)

          -- which is put on top
          pub working_push : {qs : ℕ → Piece Task} → Pushes ps qs k c y → Working m s d₀ w t₀ d qs (suc k)
          working_push {qs} pushes =
              let none = pushes.opens.done in
              record {
                growing = work.growing;
                place = suc (s.place (ps k).variable);
                function = λ a. work.function (updated a (ps k).variable (ps k).done);
                hole = hole_same qs pushes.same (deeper work.hole work.top less);
                top = opened pushes.opens (suc (s.place (ps k).variable)) (λ a. work.function (updated a (ps k).variable (ps k).done))
                    (needs_back st.reduced.ordered work.growing.keeps w then_of needs) (omega (arith, next_low, needs.topmost)) then_means;
                few = omega arith;
              }
