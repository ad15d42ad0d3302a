-- What is kept while siblings are found, of the first n nodes: the last child of each that isn't a text.
use Rattle.std.specs.Prelude.{ℕ, ◌≡◌, ◌<◌, true, false, List, length, slice_index, slice_index_or, Option, Some, None}
use Rattle.lay_doc.specs.declared.node.Node.{Node}
use Rattle.lay_doc.specs.Document.{parents_of, is_text_at}

pub record IsLastChild (nodes : List Node) (n p m : ℕ) : Type 0 where
  pub below_root : 0 < m
  pub before : m < n
  pub parent_is : slice_index (parents_of nodes) m ≡ p
  pub no_text : is_text_at nodes m ≡ false
  pub nearest : (j : ℕ) → m < j → j < n → slice_index (parents_of nodes) j ≡ p → is_text_at nodes j ≡ true

pub record AreLast (nodes : List Node) (n : ℕ) (last : List (Option ℕ)) : Type 0 where
  pub count : length last ≡ length nodes
  pub some : (p m : ℕ) → p < length nodes → slice_index_or last p None ≡ Some m → IsLastChild nodes n p m
  pub none : (p j : ℕ) → p < length nodes → slice_index_or last p None ≡ None → 0 < j → j < n →
      slice_index (parents_of nodes) j ≡ p → is_text_at nodes j ≡ true
