-- Contexts of a document (CSS 2.2, 9.4.1) before and after an edit that changes styles or a text alone: the same contexts stand in each
-- other, and their boxes are the same but for their styles and texts. Of some it is known that these are the same too.
use Rattle.std.specs.Prelude.{ℕ, ◌≡◌, ◌<◌, Bool, false, List, length, slice_index_or}
use Rattle.lay_contexts.specs.Contexts.{Context, boxes_in, context_at}
use Rattle.lay_after_edits.specs.Contexts.Unstyled.{all_unstyled}

-- the context c became e
pub record HasLinks (c e : Context) : Type 0 where
  pub place : e.place ≡ c.place
  pub outer : e.outer ≡ c.outer
  pub outer_box : e.outer_box ≡ c.outer_box
  pub inner : e.inner ≡ c.inner
  pub boxes : all_unstyled e.boxes ≡ all_unstyled c.boxes

abbrev pub is_made : List Bool → ℕ → Bool
is_made made i = slice_index_or made i false

-- contexts became later ones, and all but these, of which the boxes were made anew, kept their boxes
pub record AreRestyled (contexts later : List Context) (made : List Bool) : Type 0 where
  pub count : length later ≡ length contexts
  pub flags : length made ≡ length contexts
  pub links : (i : ℕ) → i < length contexts → HasLinks (context_at contexts i) (context_at later i)
  pub kept : (i : ℕ) → i < length contexts → is_made made i ≡ false → boxes_in later i ≡ boxes_in contexts i
