-- A node that is looked up or added is the one that was to be made. Assumes nothing.
use Rattle.std.proofs.Common.{◌≡◌, ℕ, ◌<◌, ◌≤◌, true, false, List, [], ◌∷◌, ◌++◌, length, get_or, Some, None, sym, ap, ◌∙◌, subst, subst₂, ⊎_elim, arith}
use Rattle.std.proofs.lemmas.Bool.{cases_lt}
use Rattle.mvl.specs.Labels.{Meaning, inverse, Laws}
use Rattle.diagrams.specs.Shape.{Shape, ShapeLaws}
use Rattle.diagrams.specs.Diagram.{node, Edge as Arrow, edge_to, turned}
use Rattle.diagrams.specs.Make.{Adds, Alike, normal, Made, Asks, Makes}
use Rattle.diagrams.proofs.Build.Make.{makes_alike, makes_present, makes_added}
use Rattle.tables.specs.declared.parts.edge.Edge.{Edge}
use Rattle.tables.specs.declared.parts.link.Link.{Link}
use Rattle.tables.specs.declared.parts.node.Node.{Node}
use Rattle.tables.specs.Edges.{arrows, unused}
use Rattle.tables.specs.Records.{at, nodes_in}
use Rattle.tables.specs.Sounds.{Sound}
use Rattle.tables.specs.Finds.{Finds, Alikes, Filled}
use Rattle.tables.proofs.Same.{arrow_apart, arrow_same}
use Rattle.tables.proofs.Appending.{has_record, more_adds, sound_more}

module _ {m : Meaning} (l : Laws m) {s : Shape} (sl : ShapeLaws s) {xs : List Node} (sound : Sound m s xs) {x : ℕ} (es : List Edge)
    (asks : Asks m s (nodes_in xs) x (arrows es)) where
  alike_is : Alikes es (s.size x) true → Alike (s.size x) (arrows es)
  alike_is all i h = arrow_same (get_or es i unused) (get_or es 0 unused) (all i h)

  pub unlike_is : Alikes es (s.size x) false → Alike (s.size x) (arrows es) → ⊥
  unlike_is other all = other (λ i h. arrow_apart (get_or es i unused) (get_or es 0 unused) (all i h))

  -- the edges are one
  pub made_alike : Alikes es (s.size x) true → Makes m s (nodes_in xs) x (arrows es) (nodes_in xs) (arrows es 0)
  made_alike all = makes_alike l sl sound.reduced x asks.within (arrows es) asks.of asks.below (alike_is all)

  -- the edges ns were turned by the inverse of the first label
  module _ {label k : ℕ} {ns : List Edge} (first : label ≡ (arrows es 0).label) (back : k ≡ inverse m label) (turns : Filled (λ i. turned m k (arrows es i)) (s.size x) ns) where
    filled : Filled (normal m (arrows es)) (s.size x) ns
    filled = subst (λ (j : ℕ). Filled (λ i. turned m j (arrows es i)) (s.size x) ns) (back ∙ ap (inverse m) first) turns

    found_made : (r : ℕ) → Finds xs (record { variable = x; edges = ns }) (Some r) → Made m s (nodes_in xs) x (arrows es) r
    found_made r (h, t) = record {
      has = has_record xs r h;
      variable = t.variable;
      edges = λ i b.
          let i4 : i < 4 = omega (arith, sl.size_high x asks.within) in
          arrow_same (get_or (at xs r).key.edges i unused) (get_or ns i unused) (t.edges i i4) ∙ filled.used i b;
    }

    -- the node is there
    pub made_present : {r : ℕ} → Finds xs (record { variable = x; edges = ns }) (Some r) → {e : Arrow} → e ≡ edge_to (arrows es 0).label (node r)
        → Makes m s (nodes_in xs) x (arrows es) (nodes_in xs) e
    made_present {r} finds is =
        subst (λ (e : Arrow). Makes m s (nodes_in xs) x (arrows es) (nodes_in xs) e) (sym is)
        (makes_present l sl sound.reduced x asks.within (arrows es) asks.of asks.below (found_made r finds))

    pub none_made : Finds xs (record { variable = x; edges = ns }) None → (q : ℕ) → Made m s (nodes_in xs) x (arrows es) q → ⊥
    none_made finds q made =
        finds q made.has.0 (record {
          variable = made.variable;
          edges = λ i h.
              ⊎_elim
              (λ (b : i < s.size x). arrow_apart (get_or (at xs q).key.edges i unused) (get_or ns i unused) (made.edges i b ∙ sym (filled.used i b)))
              (λ (b : s.size x ≤ i). sound.fills q i made.has.0 (subst (λ y. s.size y ≤ i) (sym made.variable) b) h ∙ sym (filled.fills i b h))
              (cases_lt i (s.size x));
        })

    -- it is missing
    module _ (other : Alikes es (s.size x) false) (finds : Finds xs (record { variable = x; edges = ns }) None) where
      -- it is added
      module _ (next : Link) where
        abbrev fresh : Node
        fresh = record { key = record { variable = x; edges = ns }; next = next }

        fresh_adds : Adds s (nodes_in xs) x (normal m (arrows es)) (length xs) (nodes_in (xs ++ fresh ∷ []))
        fresh_adds =
            let a = more_adds xs fresh s in
            record { keeps = a.keeps; new = a.new; has = a.has; variable = a.variable; edges = λ i b. a.edges i b ∙ filled.used i b; only = a.only }

        fresh_makes : Makes m s (nodes_in xs) x (arrows es) (nodes_in (xs ++ fresh ∷ [])) (edge_to (arrows es 0).label (node (length xs)))
        fresh_makes = makes_added l sl sound.reduced x asks.within (arrows es) asks.of asks.below (unlike_is other) (none_made finds) fresh_adds

        pub made_added : {ys : List Node} → ys ≡ xs ++ record { key = record { variable = x; edges = ns }; next = next } ∷ [] → {e : Arrow}
            → e ≡ edge_to (arrows es 0).label (node (length xs)) → Makes m s (nodes_in xs) x (arrows es) (nodes_in ys) e
        made_added grown is =
            subst₂ (λ (zs : List Node) (e : Arrow). Makes m s (nodes_in xs) x (arrows es) (nodes_in zs) e) (sym grown) (sym is) fresh_makes

        pub sound_added : {ys : List Node} → ys ≡ xs ++ record { key = record { variable = x; edges = ns }; next = next } ∷ [] → Sound m s ys
        sound_added grown = subst (Sound m s) (sym grown) (sound_more sound fresh filled.fills fresh_makes.reduced)
