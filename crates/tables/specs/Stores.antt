-- What a store holds. Assumes nothing.
use Rattle.std.specs.Prelude.{◌≡◌, ℕ, List, [], vec_items}
use Rattle.tables.specs.declared.parts.node.Node.{Node}
use Rattle.tables.specs.declared.parts.store.Store.{Store}

abbrev pub items : Store → List Node
items s = vec_items s.nodes

abbrev pub limit_of : Store → ℕ
limit_of s = s.limit

-- a store with no record
pub record Opened (limit : ℕ) (s : Store) : Type 0 where
  pub items_are : items s ≡ []
  pub limit_is : limit_of s ≡ limit
