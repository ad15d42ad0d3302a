-- The own box of a context, as the context around it takes it: its used margins, the size of its border box (CSS 2.2, 8.1),
-- and its baseline as an inline-block (10.8.1). The context around knows nothing else of what is inside.
use Rattle.std.specs.Prelude.{ℕ, ◌^◌, ◌<◌, ℤ, pos, neg_ℤ, ◌+ℤ◌, ◌≤ℤ◌, List, length, slice_index_or, Option, None, IfSome}
use Rattle.lay_units.specs.Units.{IsUsed, IsBoxSize}
use Rattle.lay_units.specs.declared.length.Unit.{Unit as Length}
use Rattle.lay_units.specs.declared.records.Sides.{Sides}
use Rattle.lay_units.specs.Lengths.{no_length}
use Rattle.lay_sizes.specs.declared.own_boxes.OwnBox.{OwnBox}
use Rattle.lay_sizes.specs.declared.sizing.BoxSizes.{BoxSizes}
use Rattle.lay_sizes.specs.BoxSizes.{border_width}

-- the margins of a box
abbrev pub margins_of : BoxSizes → Sides
margins_of z = record {
  top = z.margin_top;
  right = z.widths.margin_right;
  bottom = z.margin_bottom;
  left = z.widths.margin_left;
}

-- A box of these used sizes, of this height, and with its baseline so far below the top of its border box. Where it has
-- none, "the baseline is the bottom margin edge".
abbrev pub own_box : BoxSizes → Length → Option Length → OwnBox
own_box z height baseline = record {
  margin = margins_of z;
  width = record { 0 = border_width z };
  height = height;
  baseline = baseline;
}

-- the width and the height of its margin box
abbrev pub margin_width : OwnBox → ℤ
margin_width o = o.margin.left.0 +ℤ o.width.0 +ℤ o.margin.right.0

abbrev pub margin_height : OwnBox → ℤ
margin_height o = o.margin.top.0 +ℤ o.height.0 +ℤ o.margin.bottom.0

abbrev pub no_own_box : OwnBox
no_own_box = record {
  margin = record { top = no_length; right = no_length; bottom = no_length; left = no_length };
  width = no_length;
  height = no_length;
  baseline = None;
}

abbrev pub own_box_at : List OwnBox → ℕ → OwnBox
own_box_at inner k = slice_index_or inner k no_own_box

-- at most 2^59 units from 0
abbrev pub IsBaseline : ℤ → Type 0
IsBaseline v = (neg_ℤ (pos (2 ^ 59)) ≤ℤ v) × (v ≤ℤ pos (2 ^ 59))

pub record OwnBoxFits (o : OwnBox) : Type 0 where
  pub margin_top : IsUsed o.margin.top.0
  pub margin_right : IsUsed o.margin.right.0
  pub margin_bottom : IsUsed o.margin.bottom.0
  pub margin_left : IsUsed o.margin.left.0
  pub width : IsBoxSize o.width.0
  pub height : IsBoxSize o.height.0
  pub baseline : IfSome o.baseline (λ b. IsBaseline b.0)

abbrev pub OwnBoxesFit : List OwnBox → Type 0
OwnBoxesFit inner = (k : ℕ) → k < length inner → OwnBoxFits (own_box_at inner k)
