-- The captions of a table (CSS 2.2, 17.4.1): `caption-side` says whether a caption stands above or below the table box. Those on one
-- side stand in document order.
use Rattle.std.specs.Prelude.{ℕ, zero, suc, ◌+◌, ◌<◌, ◌&&◌, Bool, true, false, List, [], ◌∷◌, ◌++◌, length, if◌then◌else◌, slice_index}
use Rattle.lay_style.specs.declared.style_words.CaptionSide.{CaptionSide}
use Rattle.lay_style.specs.declared.style_words.CaptionSide.TheVariants as side
use Rattle.lay_style.specs.ComputedStyle.{style_at}
use Rattle.lay_box_tree.specs.declared.box_tree.BoxNode.{BoxNode}
use Rattle.lay_box_tree.specs.BoxColumns.{box_styles}
use Rattle.lay_box_tree.specs.Kinds.{is_caption_kind}
use Rattle.lay_table_grid.specs.TableBoxes.{kind_at}

abbrev pub is_side : CaptionSide → CaptionSide → Bool
is_side side.Top side.Top = true
is_side side.Bottom side.Bottom = true
is_side _ _ = false

-- the box at k is a caption on this side of the table
abbrev pub is_caption_on : CaptionSide → List BoxNode → ℕ → Bool
is_caption_on side boxes k =
    is_caption_kind (kind_at boxes k) && is_side (style_at (box_styles boxes) k).table.caption_side side

-- the places of such captions among the first n boxes
abbrev pub captions_to : CaptionSide → List BoxNode → (n : ℕ) → List ℕ
captions_to side boxes zero = []
captions_to side boxes (suc k) = captions_to side boxes k ++ (if is_caption_on side boxes k then k ∷ [] else [])

abbrev pub captions_on : CaptionSide → List BoxNode → List ℕ
captions_on side boxes = captions_to side boxes (length boxes)

-- those above the table box, and those below it
pub record Captions : Type 0 where
  pub above : List ℕ
  pub below : List ℕ

abbrev pub captions_of : List BoxNode → Captions
captions_of boxes = record { above = captions_on side.Top boxes; below = captions_on side.Bottom boxes }

-- the number of the table box among the boxes in the wrapper: the wrapper stands first, then the captions above the table
abbrev pub table_number : Captions → ℕ
table_number captions = length captions.above + 1

-- these are places of some of so many boxes
abbrev pub ArePlaces : ℕ → List ℕ → Type 0
ArePlaces count places = (n : ℕ) → n < length places → slice_index places n < count
