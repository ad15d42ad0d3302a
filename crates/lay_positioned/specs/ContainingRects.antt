-- The containing block of an absolutely positioned box (CSS 2.2, 10.1, cases 3 and 4), as a rectangle: the padding box of the
-- nearest box that can be one, in the formatting context of its anchor or in one further out; where there is none, the viewport.
-- That of a fixed box is the viewport. The rectangle is counted as where the anchor stands: from the content of its formatting
-- context, and so it is found step by step from the outside.
use Rattle.std.specs.Prelude.{ℕ, zero, suc, ◌<◌, ◌-ℤ◌, Bool, List, Option, None, Some}
use Rattle.lay_units.specs.declared.records.Rect.{Rect}
use Rattle.lay_units.specs.Lengths.{no_length}
use Rattle.lay_box_tree.specs.declared.box_tree.BoxNode.{BoxNode}
use Rattle.lay_sizes.specs.declared.sizing.ContainingBlock.{ContainingBlock}
use Rattle.lay_sizes.specs.UsedLengths.{or_zero}
use Rattle.lay_contexts.specs.FormattingContexts.{FormattingContext, boxes_in, formatting_context_at}
use Rattle.lay_placements.specs.declared.corner.Corner.{Corner}
use Rattle.lay_positioned.specs.Holders.{IsHolderFor, holder_for}
use Rattle.lay_positioned.specs.Layouts.{Layout, step}
use Rattle.lay_positioned.specs.PaddingBoxes.{padding_box}

-- the viewport on the page
abbrev pub viewport_rect : ContainingBlock → Rect
viewport_rect viewport = record { x = no_length; y = no_length; w = viewport.width; h = or_zero viewport.height }

-- a rectangle, counted from a corner
abbrev pub seen_from : Corner → Rect → Rect
seen_from corner r = record {
  x = record { 0 = r.x.0 -ℤ corner.x.0 };
  y = record { 0 = r.y.0 -ℤ corner.y.0 };
  w = r.w;
  h = r.h;
}

-- This is the containing block of an absolutely positioned box that has its anchor at the place k in the formatting context with
-- the number i.
pub data IsContainingRect (viewport : ContainingBlock) (is_fixed : Bool) (contexts : List FormattingContext) (laid : ℕ → Layout) : (i k : ℕ)
    → Rect → Type 0 where
  held : (i k holder : ℕ) → IsHolderFor is_fixed (boxes_in contexts i) k (Some holder)
      → IsContainingRect viewport is_fixed contexts laid i k (padding_box (boxes_in contexts i) (laid i) holder)
  further : (i k : ℕ) (r : Rect) → 0 < i → IsHolderFor is_fixed (boxes_in contexts i) k None
      → IsContainingRect viewport is_fixed contexts laid (formatting_context_at contexts i).outer
      (formatting_context_at contexts i).outer_box r
      → IsContainingRect viewport is_fixed contexts laid i k (seen_from (step contexts laid i) r)
  initial : (k : ℕ) → IsHolderFor is_fixed (boxes_in contexts 0) k None
      → IsContainingRect viewport is_fixed contexts laid 0 k (seen_from (laid 0).offset (viewport_rect viewport))

abbrev pub found_or : List BoxNode → Layout → Option ℕ → Rect → Rect
found_or boxes layout (Some holder) outside = padding_box boxes layout holder
found_or boxes layout None outside = outside

-- The value of `IsContainingRect`, by the law `settings_are_values`: it is found in so many turns, as there are no more formatting
-- contexts around one than stand before it.
abbrev pub containing_in : (turns : ℕ) → ContainingBlock → (is_fixed : Bool) → List FormattingContext → (ℕ → Layout) → (i k : ℕ) → Rect
containing_in zero viewport is_fixed contexts laid i k =
    found_or (boxes_in contexts i) (laid i) (holder_for is_fixed (boxes_in contexts i) k)
    (seen_from (laid 0).offset (viewport_rect viewport))
containing_in (suc turns) viewport is_fixed contexts laid zero k =
    found_or (boxes_in contexts 0) (laid 0) (holder_for is_fixed (boxes_in contexts 0) k)
    (seen_from (laid 0).offset (viewport_rect viewport))
containing_in (suc turns) viewport is_fixed contexts laid (suc i) k =
    let c = formatting_context_at contexts (suc i) in
    found_or c.boxes (laid (suc i)) (holder_for is_fixed c.boxes k)
    (seen_from (step contexts laid (suc i)) (containing_in turns viewport is_fixed contexts laid c.outer c.outer_box))
