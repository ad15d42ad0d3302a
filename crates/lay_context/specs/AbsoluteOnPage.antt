-- Absolutely positioned boxes on the page, in the standard's words: the containing block of one is the padding box of its holder there,
-- or the viewport (CSS 2.2, 10.1), and it stands its used `left` and `margin-left`, and `top` and `margin-top`, from the edges of that
-- (10.3.7, 10.6.4). Here nothing is counted from one formatting context to the next: all is where the tree has it.
use Rattle.std.specs.Prelude.{ℕ, zero, suc, ◌≡◌, ◌<◌, ◌+ℤ◌, ◌-ℤ◌, Bool, true, false, List, length, Option, None, Some}
use Rattle.lay_units.specs.declared.length.Unit.{Unit as Length}
use Rattle.lay_units.specs.declared.records.AbsOut.{AbsOut}
use Rattle.lay_units.specs.declared.records.Len.TheVariants.{Of as of}
use Rattle.lay_units.specs.declared.records.Rect.{Rect}
use Rattle.lay_units.specs.Lengths.{no_length}
use Rattle.lay_box_tree.specs.declared.box_tree.BoxNode.{BoxNode}
use Rattle.lay_box_tree.specs.Kinds.{is_wrapper}
use Rattle.lay_measure.specs.declared.preferred_widths.PreferredWidths.{PreferredWidths}
use Rattle.lay_sizes.specs.declared.sizing.ContainingBlock.{ContainingBlock}
use Rattle.lay_sizes.specs.SizeColumns.{sizes_at}
use Rattle.lay_abspos.specs.declared.axis.ContentSize.TheVariants.{Shrinks as shrinks}
use Rattle.lay_abspos.specs.AbsoluteAxis.{IsUsedAxis}
use Rattle.lay_box_tree.specs.BoxColumns.{box_at}
use Rattle.lay_contexts.specs.FormattingContexts.{FormattingContext, boxes_in, formatting_context_at}
use Rattle.lay_placements.specs.declared.corner.Corner.{Corner}
use Rattle.lay_placements.specs.Corners.{corner_at, no_corner}
use Rattle.lay_placements.specs.Standings.{standing_at}
use Rattle.lay_abspos.specs.declared.setting.AbsoluteSetting.{AbsoluteSetting}
use Rattle.lay_abspos.specs.AbsoluteAxes.{axis_across, wrapper_across}
use Rattle.lay_abspos.specs.AbsoluteSizes.{own_axis_across}
use Rattle.lay_positioned.specs.ContainingRects.{viewport_rect}
use Rattle.lay_positioned.specs.HoldersOutward.{Holder, IsHolderOf}
use Rattle.lay_abspos.specs.Offsets.{axis_of_height}
use Rattle.lay_positioned.specs.PaddingBoxes.{padding_box}
use Rattle.lay_context_sizes.specs.TableContexts.{is_table}
use Rattle.lay_context.specs.DocumentLayout.{widths_in}
use Rattle.lay_context.specs.Local.{IsTaskDone}
use Rattle.lay_context.specs.Medium.{Medium}
use Rattle.lay_context.specs.PageCorners.{HasPageCorners, beside, standing_of}
use Rattle.lay_context.specs.PlacedContexts.{placement_in}
use Rattle.lay_context.specs.Settings.{laid, sizes_in}
use Rattle.lay_context.specs.Workings.{Workings}
use Rattle.lay_context.specs.declared.task.Task.{Task}

-- formatting contexts that are laid out, with the corners of their border boxes on the page
pub record PageLayout : Type 0 where
  pub contexts : List FormattingContext
  pub workings : Workings
  pub corners : List Corner

-- the values meet their equations, and the corners are those that come of them
pub record IsSolved (medium : Medium) (p : PageLayout) : Type 0 where
  pub done : (task : Task) → task.context < length p.contexts → IsTaskDone medium p.contexts p.workings task
  pub corners : HasPageCorners p.contexts p.workings.places p.corners

-- From where what is in the formatting context with the number i is counted on the page: from the corner of its border box, and in a
-- cell so much further down as its content is moved (17.5.3). From there the tree counts its pieces.
abbrev pub content_on_page : PageLayout → ℕ → Corner
content_on_page p i = record {
  x = (corner_at p.corners i).x;
  y = record { 0 = (corner_at p.corners i).y.0 +ℤ (standing_of p.contexts p.workings.places i).shift.0 };
}

-- a rectangle that is counted from a corner, on the page
abbrev pub rect_on_page : Corner → Rect → Rect
rect_on_page corner r = record {
  x = record { 0 = corner.x.0 +ℤ r.x.0 };
  y = record { 0 = corner.y.0 +ℤ r.y.0 };
  w = r.w;
  h = r.h;
}

-- the padding box of a holder on the page, and without one the viewport
abbrev pub block_on_page : ContainingBlock → PageLayout → Option Holder → Rect
block_on_page viewport p None = viewport_rect viewport
block_on_page viewport p (Some h) =
    rect_on_page (content_on_page p h.context) (padding_box (boxes_in p.contexts h.context) (laid p.workings h.context) h.box)

-- the static position of the own box of the formatting context with the number i, its anchor, on the page; of the root's it is the
-- corner of the page
abbrev pub anchor_on_page : PageLayout → ℕ → Corner
anchor_on_page p zero = no_corner
anchor_on_page p (suc i) =
    let c = formatting_context_at p.contexts (suc i) in
    beside (content_on_page p c.outer) (standing_at (placement_in p.workings.places c.outer).standings c.outer_box).corner

-- what the equations are given by a containing block and an anchor on the page
abbrev pub setting_on_page : Rect → Corner → AbsoluteSetting
setting_on_page block anchor = record {
  rect = block;
  static_left = record { 0 = anchor.x.0 -ℤ block.x.0 };
  static_top = record { 0 = anchor.y.0 -ℤ block.y.0 };
}

-- the used axis across of a box that has these preferred widths, or of a table that is so wide
abbrev pub IsAxisAcross : (is_table : Bool) → AbsoluteSetting → BoxNode → PreferredWidths → (width : Length) → AbsOut → Type 0
IsAxisAcross true s own widths width out =
    IsUsedAxis (axis_across s own.style (wrapper_across s own.style (of width)) (shrinks no_length no_length)) out
IsAxisAcross false s own widths width out = IsUsedAxis (own_axis_across s own widths.minimum widths.preferred) out

-- The border box of the formatting context with the number i stands so on the page beside its containing block: `left` and
-- `margin-left` from its left edge, and `top` and `margin-top`, which are `left` and `margin_left` down, from its upper one.
pub record StandsInSetting (p : PageLayout) (i : ℕ) (s : AbsoluteSetting) : Type 0 where
  pub across : AbsOut
  pub down : AbsOut
  pub is_across
      : IsAxisAcross (is_table (boxes_in p.contexts i)) s (box_at (boxes_in p.contexts i) 0) (widths_in p.workings.widths i).widths
      (sizes_at (sizes_in p.workings.sizes i).boxes 0).widths.width across
  pub is_down : IsUsedAxis (axis_of_height (is_wrapper (box_at (boxes_in p.contexts i) 0).kind) s (box_at (boxes_in p.contexts i) 0)
      (placement_in p.workings.places i).own.height) down
  pub x : (corner_at p.corners i).x.0 ≡ s.rect.x.0 +ℤ across.left.0 +ℤ across.margin_left.0
  pub y : (corner_at p.corners i).y.0 ≡ s.rect.y.0 +ℤ down.left.0 +ℤ down.margin_left.0

-- it stands in its containing block
pub record StandsInContainingBlock (viewport : ContainingBlock) (p : PageLayout) (i : ℕ) : Type 0 where
  pub holder : Option Holder
  pub is_holder : IsHolderOf p.contexts i holder
  pub stands : StandsInSetting p i (setting_on_page (block_on_page viewport p holder) (anchor_on_page p i))
