-- A chain followed from its head. Assumes nothing.
use Rattle.std.proofs.Common.{◌≡◌, ℕ, ◌+◌, ◌-◌, ◌<◌, ◌≤◌, List, length, get_or, sym, ◌∙◌, subst, ⊎_elim, arith}
use Rattle.std.proofs.lemmas.Bool.{cases_eq, cases_lt}
use Rattle.tables.specs.declared.parts.key.Key.{Key}
use Rattle.tables.specs.declared.parts.link.Link.{Link}
use Rattle.tables.specs.declared.parts.node.Node.{Node}
use Rattle.tables.specs.Records.{at, none, hash_of, SameKey}
use Rattle.tables.specs.Chains.{hash_at, Latest, Chained}
use Rattle.tables.proofs.Same.{same_hash}

-- no record from l on is the one that is looked for, and the one before l has its hash
pub record Left (xs : List Node) (k : Key) (l : ℕ) : Type 0 where
  pub early : l ≤ length xs
  pub alike : 0 < l → hash_at xs (l - 1) ≡ hash_of k
  pub passed : (q : ℕ) → l ≤ q → q < length xs → SameKey (at xs q).key k → ⊥

module _ {xs : List Node} {tops : List Link} (chained : Chained xs tops) (k : Key) where
  -- the head of the chain
  pub left_start : {h : ℕ} → h ≡ hash_of k → h < 1024 → Left xs k (get_or tops h none).to
  left_start {h} is small =
      let top = subst (λ n. Latest xs (length xs) n (get_or tops h none).to) is (chained.heads h small) in
      record {
        early = top.early;
        alike = top.alike;
        passed = λ q low b t. let c = top.latest q b (same_hash t) in omega arith;
      }

  -- a record of the chain
  module _ {l : ℕ} (r : ℕ) (here : l ≡ r + 1) (left : Left xs k l) where
    pub before : r < length xs
    before = omega (arith, left.early)

    alike : hash_at xs r ≡ hash_of k
    alike = let z : l - 1 ≡ r = omega arith in rw z at left.alike (omega arith)

    -- that was read, and is another
    module _ {n : Node} (is : n ≡ at xs r) where
      pub left_less : n.next.to < l
      left_less = subst (λ (y : Node). y.next.to < l) (sym is) (omega (arith, (chained.links r before).early))

      pub left_more : (SameKey n.key k → ⊥) → Left xs k n.next.to
      left_more other =
          let link = chained.links r before in
          let unlike : SameKey (at xs r).key k → ⊥ = subst (λ (y : Node). SameKey y.key k → ⊥) is other in
          subst (λ (y : Node). Left xs k y.next.to) (sym is) (record {
            early = omega (arith, link.early, left.early);
            alike = λ h. link.alike h ∙ alike;
            passed = λ q low h t.
                ⊎_elim
                (λ (e : q ≡ r). unlike (subst (λ p. SameKey (at xs p).key k) e t))
                (λ f.
                ⊎_elim
                (λ (b : q < l). let c = link.latest q (omega arith) (same_hash t ∙ sym alike) in omega arith)
                (λ (b : l ≤ q). left.passed q b h t)
                (cases_lt q l))
                (cases_eq q r);
          })
