-- The used width of a table of the automatic layout (CSS 2.2, 17.5.2.2): that of its content, between its inner padding edges, the
-- spacings beside its columns among it. A `width` gives "the greater of W, CAPMIN, and the minimum width required by all the columns",
-- and `auto` the width to which the table shrinks in the room beside its margins, borders and paddings: that of its columns at their
-- maximums where there is room, and no less than at their minimums and than its captions can be. All tables shrink so, a block in flow as
-- one that floats or is positioned. `min-width` and `max-width` bound it (10.4), but never below columns and captions.
--
-- Columns from 320 to 640 units together in a room of 500: 500. With captions of 700 units: 700.
use Rattle.std.specs.Prelude.{◌≡◌, ◌-ℤ◌}
use Rattle.std.specs.Int.{int_max}
use Rattle.lay_units.specs.declared.length.Unit.{Unit as Length}
use Rattle.lay_units.specs.declared.records.BlockIn.{BlockIn}
use Rattle.lay_widths.specs.FloatWidths.{IsUsedFloat}
use Rattle.lay_widths.specs.Lengths.{edges_of}
use Rattle.lay_widths.specs.declared.widths.BlockOut.{BlockOut}

-- The content of the table of this block, which has the margins of its wrapper. `least` and `greatest` are its columns at their minimums
-- and their maximums with their spacings, and `captions` is the least width of its captions with their margins.
pub record IsAutoWidth (b : BlockIn) (least greatest captions width : Length) : Type 0 where
  pub out : BlockOut
  pub is_used : IsUsedFloat b least greatest out
  pub width_is : width.0 ≡ int_max out.width.0 (int_max least.0 (captions.0 -ℤ edges_of b))
