-- Formatting contexts beside each other, each known by its number: the root element's first, and each behind the one around
-- it, in which its box stands (CSS 2.2, 9.4.1). Those of elements are the contexts of the document; those of anonymous tables
-- and cells (17.2.1) are beside them.
use Rattle.std.specs.Prelude.{ℕ, ◌≡◌, ◌<◌, Bool, false, List, [], length, slice_index, slice_index_or}
use Rattle.lay_box_tree.specs.declared.box_tree.BoxNode.{BoxNode}
use Rattle.lay_box_tree.specs.ContextBoxes.{AreContextBoxes}

pub record FormattingContext : Type 0 where
  -- it is that of an anonymous table or cell
  pub anonymous : Bool
  -- the number of the formatting context around it, and the place of its box among the boxes of that; of the first one 0
  pub outer : ℕ
  pub outer_box : ℕ
  pub boxes : List BoxNode
  -- for each of its boxes the number of the inner formatting context whose box it is, and 0 for other boxes
  pub inner : List ℕ

abbrev pub no_formatting_context : FormattingContext
no_formatting_context = record { anonymous = false; outer = 0; outer_box = 0; boxes = []; inner = [] }

-- the formatting context with this number
abbrev pub formatting_context_at : List FormattingContext → ℕ → FormattingContext
formatting_context_at contexts i = slice_index_or contexts i no_formatting_context

abbrev pub boxes_in : List FormattingContext → ℕ → List BoxNode
boxes_in contexts i = (formatting_context_at contexts i).boxes

-- the one with the number j is inside the one with the number i
pub record IsInside (contexts : List FormattingContext) (i j : ℕ) : Type 0 where
  pub box : ℕ
  pub within : box < length (formatting_context_at contexts i).inner
  pub number : slice_index (formatting_context_at contexts i).inner box ≡ j
  pub some : 0 < j

pub record AreFormattingContexts (contexts : List FormattingContext) : Type 0 where
  pub boxes : (i : ℕ) → i < length contexts → AreContextBoxes (boxes_in contexts i)
  pub outer : (i : ℕ) → 0 < i → i < length contexts → (formatting_context_at contexts i).outer < i
  pub outer_box : (i : ℕ) → 0 < i → i < length contexts
      → (formatting_context_at contexts i).outer_box < length (boxes_in contexts (formatting_context_at contexts i).outer)
  pub count : (i : ℕ) → i < length contexts → length (formatting_context_at contexts i).inner ≡ length (boxes_in contexts i)
  pub behind : (i j : ℕ) → i < length contexts → IsInside contexts i j → i < j
  pub within : (i j : ℕ) → i < length contexts → IsInside contexts i j → j < length contexts
  -- what is inside one is that which has this one around it
  pub around : (i j : ℕ) → i < length contexts → IsInside contexts i j → (formatting_context_at contexts j).outer ≡ i
