-- The trees of the versions that a history publishes.
use Rattle.std.specs.Prelude.{ℕ, ◌≡◌, ◌==◌, List, map, find, Option, option_map}
use Rattle.lay_history.specs.declared.edits.history.Entry.{Entry}
use Rattle.lay_frag.specs.Pieces.{Context}
use Rattle.lay_history.specs.Histories.{published}

-- the tree of a version
pub record PublishedTreeValue : Type 0 where
  pub version : ℕ
  pub tree : List Context

abbrev pub versions_of : List PublishedTreeValue → List ℕ
versions_of trees = map (λ t. t.version) trees

-- there is one tree for each version that is published, in their order
abbrev pub HasTrees : List Entry → List PublishedTreeValue → Type 0
HasTrees history trees = versions_of trees ≡ published history

-- the tree of this version
abbrev pub tree_at : ℕ → List PublishedTreeValue → Option (List Context)
tree_at version trees = option_map (λ t. t.tree) (find (λ t. t.version == version) trees)
