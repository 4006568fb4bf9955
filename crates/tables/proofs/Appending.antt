-- One record more. Assumes nothing.
use Rattle.std.proofs.Common.{◌≡◌, ℕ, ◌+◌, ◌-◌, ◌<◌, ◌≤◌, true, ltb, ◌≢◌, List, [], ◌∷◌, ◌++◌, length, get_or, set, sym, ap, ◌∙◌, subst, subst₂, ⊎_elim, arith, lt→ltb, length-append, get_or-set_other, get_or-set_same}
use lib.ListN.{get_or-append}
use lib.Seq.{get_or-append_seam}
use Rattle.std.proofs.lemmas.Bool.{cases_eq, cases_lt}
use Rattle.mvl.specs.Labels.{Meaning}
use Rattle.diagrams.specs.Shape.{Shape}
use Rattle.diagrams.specs.Diagram.{Has, Reduced, population}
use Rattle.diagrams.specs.Make.{Adds}
use Rattle.mvl.specs.Tests.{is_true}
use Rattle.mvl.proofs.Search.Count.{count_below_same, count_all}
use Rattle.tables.specs.Edges.{arrows, word_at}
use Rattle.tables.specs.Records.{at, blank, none, hash_of, nodes_in}
use Rattle.tables.specs.Chains.{hash_at, Latest, Chained}
use Rattle.tables.specs.Sounds.{Sound}
use Rattle.tables.specs.declared.parts.key.Key.{Key}
use Rattle.tables.specs.declared.parts.link.Link.{Link}
use Rattle.tables.specs.declared.parts.node.Node.{Node}

-- views of a row of records

pub has_record : (xs : List Node) (r : ℕ) → r < length xs → Has (nodes_in xs) r
has_record xs r h = (h, lt→ltb r (length xs) h)

pub population_is : (xs : List Node) → population (nodes_in xs) ≡ length xs
population_is xs = count_below_same (length xs) (λ r. ltb r (length xs)) (λ r. true) (λ r h. is_true (ltb r (length xs)) (lt→ltb r (length xs) h)) ∙ count_all (length xs)

module _ (xs : List Node) (n : Node) where
  pub more_length : length (xs ++ n ∷ []) ≡ length xs + 1
  more_length = length-append xs (n ∷ [])

  pub more_old : (r : ℕ) → r < length xs → at (xs ++ n ∷ []) r ≡ at xs r
  more_old r h = get_or-append xs (n ∷ []) blank r h

  pub more_new : at (xs ++ n ∷ []) (length xs) ≡ n
  more_new = get_or-append_seam xs n [] blank

  pub more_adds : (s : Shape) → Adds s (nodes_in xs) n.key.variable (arrows n.key.edges) (length xs) (nodes_in (xs ++ n ∷ []))
  more_adds s = record {
    keeps = record {
      has = λ r h. let b = h.0 in has_record (xs ++ n ∷ []) r (omega (arith, more_length));
      variable = λ r h. ap (λ (y : Node). y.key.variable) (more_old r h.0);
      edge = λ r i h b. ap (λ (y : Node). arrows y.key.edges i) (more_old r h.0);
    };
    new = λ h. let b = h.0 in omega arith;
    has = has_record (xs ++ n ∷ []) (length xs) (omega (arith, more_length));
    variable = ap (λ (y : Node). y.key.variable) more_new;
    edges = λ i b. ap (λ (y : Node). arrows y.key.edges i) more_new;
    only = λ p h new. ⊎_elim (λ (b : p < length xs). absurd (new (has_record xs p b))) (λ (b : length xs ≤ p). let c = h.0 in omega (arith, more_length)) (cases_lt p (length xs));
  }

  -- what looks only at records that were there stays
  pub latest_kept : (k h l : ℕ) → k ≤ length xs → Latest xs k h l → Latest (xs ++ n ∷ []) k h l
  latest_kept k h l high t = record {
    early = t.early;
    latest = λ q b e. t.latest q b (sym (ap (λ (y : Node). hash_of y.key) (more_old q (omega arith))) ∙ e);
    alike = λ b. ap (λ (y : Node). hash_of y.key) (more_old (l - 1) (omega (arith, t.early))) ∙ t.alike b;
  }

-- the record joins the chain of its hash, at its head
module _ (xs : List Node) (tops : List Link) (chained : Chained xs tops) (wide : length tops ≡ 1024) (k : Key) (small : hash_of k < 1024) where
  abbrev fresh : Node
  fresh = record { key = k; next = get_or tops (hash_of k) none }

  abbrev more : List Node
  more = xs ++ fresh ∷ []

  abbrev heads_then : List Link
  heads_then = set tops (hash_of k) (record { to = length xs + 1 })

  fresh_hash : hash_at more (length xs) ≡ hash_of k
  fresh_hash = ap (λ (y : Node). hash_of y.key) (more_new xs fresh)

  links_more : (r : ℕ) → r < length more → Latest more r (hash_at more r) (at more r).next.to
  links_more r h =
      ⊎_elim
      (λ (b : r < length xs).
      subst (λ (y : Node). Latest more r (hash_of y.key) y.next.to) (sym (more_old xs fresh r b)) (latest_kept xs fresh r _ _ (omega arith) (chained.links r b)))
      (λ (b : length xs ≤ r).
      let e : r ≡ length xs = omega (arith, more_length xs fresh) in
      subst (λ q. Latest more q (hash_at more q) (at more q).next.to) (sym e)
      (subst (λ (y : Node). Latest more (length xs) (hash_of y.key) y.next.to) (sym (more_new xs fresh)) (latest_kept xs fresh (length xs) _ _ (omega arith) (chained.heads (hash_of k) small))))
      (cases_lt r (length xs))

  head_here : Latest more (length more) (hash_of k) (length xs + 1)
  head_here = record {
    early = omega (arith, more_length xs fresh);
    latest = λ q b e. omega (arith, more_length xs fresh);
    alike = λ b. let z : length xs + 1 - 1 ≡ length xs = omega arith in rw z fresh_hash;
  }

  head_there : (h l : ℕ) → h ≢ hash_of k → Latest xs (length xs) h l → Latest more (length more) h l
  head_there h l apart t =
      let u = latest_kept xs fresh (length xs) h l (omega arith) t in
      record {
        early = omega (arith, u.early, more_length xs fresh);
        latest = λ q b e.
            ⊎_elim
            (λ (low : q < length xs). u.latest q low e)
            (λ (high : length xs ≤ q).
            let same : q ≡ length xs = omega (arith, more_length xs fresh) in
            absurd (apart (sym e ∙ ap (hash_at more) same ∙ fresh_hash)))
            (cases_lt q (length xs));
        alike = u.alike;
      }

  chained_more : Chained more heads_then
  chained_more = record {
    links = links_more;
    heads = λ h b.
        ⊎_elim
        (λ (same : h ≡ hash_of k).
        let lt : hash_of k < length tops = omega arith in
        let e = ap (λ q. get_or heads_then q none) same ∙ get_or-set_same tops (hash_of k) (record { to = length xs + 1 }) none lt in
        subst (λ (y : Link). Latest more (length more) h y.to) (sym e) (subst (λ q. Latest more (length more) q (length xs + 1)) (sym same) head_here))
        (λ (apart : h ≢ hash_of k).
        subst (λ (y : Link). Latest more (length more) h y.to) (sym (get_or-set_other tops (hash_of k) h (record { to = length xs + 1 }) none apart)) (head_there h (get_or tops h none).to apart (chained.heads h b)))
        (cases_eq h (hash_of k));
  }

-- the same of a record that was added, at its hash
pub chained_pushed : {xs : List Node} {tops : List Link} → Chained xs tops → length tops ≡ 1024 → (k : Key) {h : ℕ} → h ≡ hash_of k → h < 1024
    → {l : Link} → l.to ≡ length xs + 1 → {ys : List Node} → ys ≡ xs ++ record { key = k; next = get_or tops h none } ∷ [] → Chained ys (set tops h l)
chained_pushed {xs} {tops} chained wide k {h} hash small last grown =
    subst₂ (λ (ys : List Node) (n : ℕ). Chained ys (set tops h (record { to = n }))) (sym grown) (sym last)
    (subst (λ h. Chained (xs ++ record { key = k; next = get_or tops h none } ∷ []) (set tops h (record { to = length xs + 1 }))) (sym hash)
    (chained_more xs tops chained wide k (omega arith)))

-- the table with the record is sound
pub sound_more : {m : Meaning} {s : Shape} {xs : List Node} → Sound m s xs → (n : Node) → ((i : ℕ) → s.size n.key.variable ≤ i → i < 4 → word_at n.key.edges i ≡ 0)
    → Reduced m s (nodes_in (xs ++ n ∷ [])) → Sound m s (xs ++ n ∷ [])
sound_more {s} {xs} sound n fills red = record {
  reduced = red;
  fills = λ r i h b c.
      ⊎_elim
      (λ (low : r < length xs).
      let e = more_old xs n r low in
      ap (λ (y : Node). word_at y.key.edges i) e ∙ sound.fills r i low (subst (λ (y : Node). s.size y.key.variable ≤ i) e b) c)
      (λ (high : length xs ≤ r).
      let same : r ≡ length xs = omega (arith, more_length xs n) in
      let e = ap (at (xs ++ n ∷ [])) same ∙ more_new xs n in
      ap (λ (y : Node). word_at y.key.edges i) e ∙ fills i (subst (λ (y : Node). s.size y.key.variable ≤ i) e b) c)
      (cases_lt r (length xs));
}
