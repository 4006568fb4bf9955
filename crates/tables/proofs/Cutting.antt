-- One record less. Assumes nothing.
use Rattle.std.proofs.Common.{◌≡◌, ℕ, ◌+◌, ◌-◌, ◌<◌, ◌≤◌, ◌≢◌, List, length, get_or, take, set, sym, ap, ◌∙◌, subst, ⊎_elim, arith, length-take-le, get_or-set_other, get_or-take, get_or-set_same}
use Rattle.std.proofs.lemmas.Bool.{cases_eq}
use Rattle.tables.specs.declared.parts.link.Link.{Link}
use Rattle.tables.specs.declared.parts.node.Node.{Node}
use Rattle.tables.specs.Records.{at, blank, none, hash_of}
use Rattle.tables.specs.Chains.{hash_at, Latest, Chained}

module _ (xs : List Node) (r : ℕ) (h : r ≤ length xs) where
  pub less_at : (q : ℕ) → q < r → at (take r xs) q ≡ at xs q
  less_at q b = get_or-take r xs q blank b

  less_hash : (q : ℕ) → q < r → hash_at (take r xs) q ≡ hash_at xs q
  less_hash q b = ap (λ (y : Node). hash_of y.key) (less_at q b)

  latest_less : (k n l : ℕ) → k ≤ r → Latest xs k n l → Latest (take r xs) k n l
  latest_less k n l b t = record {
    early = t.early;
    latest = λ q c e. t.latest q c (sym (less_hash q (omega arith)) ∙ e);
    alike = λ c. less_hash (l - 1) (omega (arith, t.early)) ∙ t.alike c;
  }

module _ (xs : List Node) (tops : List Link) (wide : length tops ≡ 1024) (r : ℕ) (last : length xs ≡ r + 1) (chained : Chained xs tops) (small : hash_at xs r < 1024) where
  within : r ≤ length xs
  within = omega arith

  len : length (take r xs) ≡ r
  len = length-take-le r xs within

  head_there : (n : ℕ) → n < 1024 → n ≢ hash_at xs r → Latest (take r xs) r n (get_or tops n none).to
  head_there n b apart =
      let t = chained.heads n b in
      let l : ℕ = (get_or tops n none).to in
      let low : l ≢ r + 1 = λ e. let z : l - 1 ≡ r = omega arith in apart (sym (t.alike (omega arith)) ∙ ap (hash_at xs) z) in
      latest_less xs r within r n l (omega arith) (record {
        early = omega (arith, t.early);
        latest = λ q c e. t.latest q (omega arith) e;
        alike = t.alike;
      })

  pub chained_less : Chained (take r xs) (set tops (hash_at xs r) (at xs r).next)
  chained_less = record {
    links = λ q b.
        let c : q < r = omega (arith, len) in
        subst (λ (y : Node). Latest (take r xs) q (hash_of y.key) y.next.to) (sym (less_at xs r within q c)) (latest_less xs r within q _ _ (omega arith) (chained.links q (omega arith)));
    heads = λ n b.
        subst (λ k. Latest (take r xs) k n (get_or (set tops (hash_at xs r) (at xs r).next) n none).to) (sym len)
        (⊎_elim
        (λ (same : n ≡ hash_at xs r).
        let lt : hash_at xs r < length tops = omega arith in
        let e = ap (λ k. get_or (set tops (hash_at xs r) (at xs r).next) k none) same ∙ get_or-set_same tops (hash_at xs r) (at xs r).next none lt in
        subst (λ (y : Link). Latest (take r xs) r n y.to) (sym e) (subst (λ k. Latest (take r xs) r k (at xs r).next.to) (sym same) (latest_less xs r within r _ _ (omega arith) (chained.links r (omega arith)))))
        (λ (apart : n ≢ hash_at xs r).
        subst (λ (y : Link). Latest (take r xs) r n y.to) (sym (get_or-set_other tops (hash_at xs r) n (at xs r).next none apart)) (head_there n b apart))
        (cases_eq n (hash_at xs r)));
  }

-- the same of a record that was read, at its hash
pub chained_popped : {xs : List Node} {tops : List Link} → Chained xs tops → length tops ≡ 1024 → (r : ℕ) → length xs ≡ r + 1 → {n : Node} → n ≡ at xs r
    → {h : ℕ} → h ≡ hash_of n.key → h < 1024 → {ys : List Node} → ys ≡ take r xs → Chained ys (set tops h n.next)
chained_popped {xs} {tops} chained wide r last {n} is {h} hash small cut =
    subst (λ (ys : List Node). Chained ys (set tops h n.next)) (sym cut)
    (subst (λ (y : Node). (h : ℕ) → h ≡ hash_of y.key → h < 1024 → Chained (take r xs) (set tops h y.next)) (sym is)
    (λ h hash small. subst (λ (k : ℕ). Chained (take r xs) (set tops k (at xs r).next)) (sym hash) (chained_less xs tops wide r last chained (omega arith))) h hash small)
