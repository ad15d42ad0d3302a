-- Atomic inline-level boxes in lines (CSS 2.2, 8.1, 9.2.2, 10.8 and 10.8.1). Of the height that counts in a line: "For
-- replaced elements, inline-block elements, and inline-table elements, this is the height of their margin box". Each takes
-- the room of its margin box, and stands with its baseline, or where it has none, with its "bottom margin edge".
use Rattle.std.specs.Prelude.{ℕ, neg_ℤ, ◌+ℤ◌, ◌-ℤ◌, Option, Some, None}
use Rattle.lay_units.specs.declared.length.Unit.{Unit as Length}
use Rattle.lay_sizes.specs.declared.own_boxes.OwnBox.{OwnBox}
use Rattle.lay_sizes.specs.OwnBoxes.{margin_width, own_box_at}
use Rattle.lay_lines.specs.declared.content.content.AtomicBox.{AtomicBox}
use Rattle.lay_lines.specs.declared.content.content.InlineArea.{InlineArea}
use Rattle.lay_lines.specs.declared.content.frame.Extent.{Extent}
use Rattle.lay_valign.specs.declared.parts.Shift.{Shift}
use Rattle.lay_line_measures.specs.BoxMeasuresValue.{BoxMeasuresValue}
use Rattle.lay_line_measures.specs.VerticalAlignment.{box_shift_at}

-- how far a border box with this baseline, or none, reaches above and below it
abbrev pub border_extent : OwnBox → Option Length → Extent
border_extent o None = record { above = record { 0 = o.height.0 +ℤ o.margin.bottom.0 }; below = record { 0 = neg_ℤ o.margin.bottom.0 } }
border_extent o (Some baseline) = record { above = baseline; below = record { 0 = o.height.0 -ℤ baseline.0 } }

-- and its margin box
abbrev pub margin_extent : OwnBox → Extent
margin_extent o = record {
  above = record { 0 = o.margin.top.0 +ℤ (border_extent o o.baseline).above.0 };
  below = record { 0 = (border_extent o o.baseline).below.0 +ℤ o.margin.bottom.0 };
}

abbrev pub atomic_in : ℕ → OwnBox → Shift → AtomicBox
atomic_in k o shift = record { node = k; width = record { 0 = margin_width o }; extent = margin_extent o; shift = shift }

-- the atomic box at k
abbrev pub atomic_at : BoxMeasuresValue → ℕ → AtomicBox
atomic_at m k = atomic_in k (own_box_at m.inner k) (box_shift_at m k)

-- what is painted of it on its line: its border box, beside its margins
abbrev pub atomic_area : OwnBox → InlineArea
atomic_area o = record {
  above = (border_extent o o.baseline).above;
  below = (border_extent o o.baseline).below;
  margin_left = o.margin.left;
  margin_right = o.margin.right;
}
