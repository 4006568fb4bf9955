-- The chains of records by which a node is found. Assumes nothing.
use Rattle.std.specs.Prelude.{◌≡◌, ℕ, ◌-◌, ◌<◌, ◌≤◌, List, length, slice_index_or}
use Rattle.tables.specs.declared.parts.link.Link.{Link}
use Rattle.tables.specs.declared.parts.node.Node.{Node}
use Rattle.tables.specs.Records.{at, none, hash_of}

abbrev pub hash_at : List Node → ℕ → ℕ
hash_at xs r = hash_of (at xs r).key

-- l leads to the greatest record below n in chain h, or is none
pub record Latest (xs : List Node) (n h l : ℕ) : Type 0 where
  pub early : l ≤ n
  pub latest : (q : ℕ) → q < n → hash_at xs q ≡ h → q < l
  pub alike : 0 < l → hash_at xs (l - 1) ≡ h

-- each record has a link to the greatest earlier one of its chain, and each head leads to the greatest of all
pub record Chained (xs : List Node) (tops : List Link) : Type 0 where
  pub links : (r : ℕ) → r < length xs → Latest xs r (hash_at xs r) (at xs r).next.to
  pub heads : (h : ℕ) → h < 1024 → Latest xs (length xs) h (slice_index_or tops h none).to
