-- Contexts beside each other, each known by its number: the root's first, and each behind the one around it, in which its box
-- stands (CSS 2.2, 9.4.1).
use Rattle.std.specs.Prelude.{ℕ, ◌≡◌, ◌<◌, List, [], length, slice_index, slice_index_or}
use Rattle.lay_box_tree.specs.declared.box_tree.BoxNode.{BoxNode}
use Rattle.lay_box_tree.specs.ContextBoxes.{AreContextBoxes}

pub record Context : Type 0 where
  -- the place of its node in the document
  pub place : ℕ
  -- the number of the context around it, and the place of its box among the boxes of that; of the root's 0
  pub outer : ℕ
  pub outer_box : ℕ
  pub boxes : List BoxNode
  -- for each of its boxes the number of the inner context whose box it is, and 0 for other boxes
  pub inner : List ℕ

abbrev pub no_context : Context
no_context = record { place = 0; outer = 0; outer_box = 0; boxes = []; inner = [] }

-- the context with this number
abbrev pub context_at : List Context → ℕ → Context
context_at contexts i = slice_index_or contexts i no_context

abbrev pub boxes_in : List Context → ℕ → List BoxNode
boxes_in contexts i = (context_at contexts i).boxes

-- the context with the number j is inside the one with the number i
pub record IsInside (contexts : List Context) (i j : ℕ) : Type 0 where
  pub box : ℕ
  pub within : box < length (context_at contexts i).inner
  pub number : slice_index (context_at contexts i).inner box ≡ j
  pub some : 0 < j

pub record AreContexts (contexts : List Context) : Type 0 where
  pub boxes : (i : ℕ) → i < length contexts → AreContextBoxes (boxes_in contexts i)
  pub outer : (i : ℕ) → 0 < i → i < length contexts → (context_at contexts i).outer < i
  pub outer_box : (i : ℕ) → 0 < i → i < length contexts
      → (context_at contexts i).outer_box < length (boxes_in contexts (context_at contexts i).outer)
  pub count : (i : ℕ) → i < length contexts → length (context_at contexts i).inner ≡ length (boxes_in contexts i)
  pub behind : (i j : ℕ) → i < length contexts → IsInside contexts i j → i < j
  pub within : (i j : ℕ) → i < length contexts → IsInside contexts i j → j < length contexts
  -- what is inside one is that which has this one around it, at this box
  pub around : (i j : ℕ) → i < length contexts → IsInside contexts i j → (context_at contexts j).outer ≡ i
  pub at : (i j : ℕ) → i < length contexts → (has : IsInside contexts i j) → (context_at contexts j).outer_box ≡ has.box
