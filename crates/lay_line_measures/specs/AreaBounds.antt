-- Within which bounds the areas of texts, inline boxes and atomic boxes are.
use Rattle.std.specs.Prelude.{pos, ◌^◌}
use Rattle.lay_floats.specs.Within.{IsWithin}
use Rattle.lay_lines.specs.declared.content.content.InlineArea.{InlineArea}

-- above and below at most 2^60 units, since the baseline of an atomic box may be far away, and beside at most 2^36
pub record AreaNear (a : InlineArea) : Type 0 where
  pub above : IsWithin (pos (2 ^ 60)) a.above.0
  pub below : IsWithin (pos (2 ^ 60)) a.below.0
  pub margin_left : IsWithin (pos (2 ^ 36)) a.margin_left.0
  pub margin_right : IsWithin (pos (2 ^ 36)) a.margin_right.0
