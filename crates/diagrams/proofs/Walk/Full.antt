-- A piece of the walk that has all its edges: its node may be made, is wanted where it is missing, and once made serves the piece below. Assumes nothing.
use Rattle.std.proofs.Common.{◌≡◌, ℕ, suc, ◌+◌, ◌≤◌, subst, arith}
use Rattle.mvl.specs.Labels.{Meaning}
use Rattle.diagrams.specs.Shape.{Shape, updated}
use Rattle.diagrams.specs.Functions.{Function, Agree, Inside}
use Rattle.diagrams.specs.Diagram.{Edge, Nodes, population, value}
use Rattle.diagrams.specs.Make.{Alike, Made, Asks, Makes}
use Rattle.diagrams.specs.Build.{Gains, EdgeFor, Wanted, lacking}
use Rattle.diagrams.specs.Walk.{Walk, Task, meant}
use Rattle.diagrams.proofs.Build.Want.{wanted_fits}
use Rattle.diagrams.proofs.Walk.Grow.{Growing, grown_gains, grown_made}
use Rattle.diagrams.proofs.Walk.Stack.{Piece, top_kept, hole_kept, hole_bottom, hole_under, full_asks, full_inside, full_made}
use Rattle.diagrams.proofs.Walk.Work.{Start, Working, Serves, start_ranged, start_depends}

module _ {m : Meaning} {s : Shape} {d₀ : Nodes} {w : Walk} {t₀ : Task} (st : Start m s d₀ w t₀) {d : Nodes} {ps : ℕ → Piece Task} {k : ℕ}
    (work : Working m s d₀ w t₀ d ps k) (all : s.size (ps k).variable ≤ (ps k).done) where
  all_done : (ps k).done ≡ s.size (ps k).variable
  all_done = omega (arith, work.few)

  -- the node may be made
  pub top_asks : Asks m s d (ps k).variable (ps k).edges
  top_asks = full_asks st.laws st.shape_laws (start_ranged st) (start_depends st) work.hole work.top all_done

  -- its edges are inside the whole
  inside : Inside m s (s.place (ps k).variable) (λ a. value m s d ((ps k).edges (a (ps k).variable)) a) (meant m s d₀ w t₀)
  inside = full_inside st.laws st.shape_laws (start_ranged st) (start_depends st) work.hole work.top all_done

  -- where it is missing, it is wanted
  pub top_wanted : (Alike (s.size (ps k).variable) (ps k).edges → ⊥) → ((q : ℕ) → Made m s d (ps k).variable (ps k).edges q → ⊥)
      → Wanted m s d (meant m s d₀ w t₀) (ps k).variable (ps k).edges
  top_wanted unlike missing = record {
    variable_within = top_asks.within;
    of = top_asks.of;
    below = top_asks.below;
    unlike = unlike;
    missing = missing;
    inside = inside;
  }

  -- so the nodes that the whole lacks are more than those added: where there is no room for one, there is none for the whole
  pub top_lacks : (Alike (s.size (ps k).variable) (ps k).edges → ⊥) → ((q : ℕ) → Made m s d (ps k).variable (ps k).edges q → ⊥)
      → population d + 1 ≤ population d₀ + lacking m s d₀ (meant m s d₀ w t₀)
  top_lacks unlike missing =
      wanted_fits st.laws st.shape_laws (meant m s d₀ w t₀) st.reduced (start_ranged st) (start_depends st) work.growing.reduced work.growing.keeps
      work.growing.parts (top_wanted unlike missing)

  -- it is made
  module _ {d' : Nodes} {e : Edge} (makes : Makes m s d (ps k).variable (ps k).edges d' e) where
    grows : Growing m s d₀ (meant m s d₀ w t₀) d'
    grows = grown_made st.laws st.shape_laws work.growing makes inside

    made_for : EdgeFor m s work.place d' work.function e
    made_for = full_made st.laws st.shape_laws (start_ranged st) (start_depends st) work.hole work.top all_done makes

    -- the last piece: the walk is done
    pub top_gains : k ≡ 0 → Gains m s d₀ (meant m s d₀ w t₀) d' e
    top_gains none =
        grown_gains st.laws st.shape_laws grows made_for.of
        (subst (λ (g : Function). Agree s (value m s d' e) g) (hole_bottom none work.hole) made_for.function)

    -- else the edge serves for the piece below
    pub top_serves : {j : ℕ} → k ≡ suc j → Serves m s d₀ w t₀ d' ps j e
    top_serves {j} some =
        let o = work.growing.reduced.ordered in
        let under = hole_under some work.hole in
        let less = under.less in
        record {
          working = record {
            growing = grows;
            place = under.place;
            function = under.function;
            hole = hole_kept o makes.keeps under.hole;
            top = top_kept o makes.keeps under.top;
            few = omega arith;
          };
          less = less;
          edge_for =
              subst (λ p. EdgeFor m s p d' (λ a. under.function (updated a (ps j).variable (ps j).done)) e) under.place_is
              (subst (λ (g : Function). EdgeFor m s work.place d' g e) under.function_is made_for);
        }
