-- The text of a tree with the places where the lines of its contexts begin.
use Rattle.std.specs.Prelude.{◌≡◌, ℕ, ◌+◌, ◌≤◌, List, length, slice_index_or, take}
use Rattle.lay_frag.specs.Pieces.{Context}
use Rattle.lay_frag.specs.Lines.{tree_text}

-- the mark of a number is the length of the text of so many contexts, and so the last mark is that of all the text
pub record HasLines (tree : List Context) (bytes marks : List ℕ) : Type 0 where
  pub text : bytes ≡ tree_text tree
  pub count : length marks ≡ length tree + 1
  pub starts : (k d : ℕ) → k ≤ length tree → slice_index_or marks k d ≡ length (tree_text (take k tree))
