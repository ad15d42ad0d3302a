-- What is painted of boxes on lines is within the bounds of pieces.
use Rattle.std.proofs.Common.{List, arith}
use Rattle.std.specs.List.{All}
use Rattle.std.proofs.lemmas.Int.{ints}
use Rattle.std.proofs.lemmas.List.Elements.{All-weaker}
use Rattle.lay_lines.specs.declared.content.content.InlineArea.{InlineArea}
use Rattle.lay_line_measures.specs.AreaBounds.{AreaNear}
use Rattle.lay_inlines.specs.Bounds.{AreaWithin}

area_within : (a : InlineArea) → AreaNear a → AreaWithin a
area_within a near = record {
  above = near.above;
  below = near.below;
  margin_left = (omega (arith, ints, near.margin_left.0), omega (arith, ints, near.margin_left.1));
  margin_right = (omega (arith, ints, near.margin_right.0), omega (arith, ints, near.margin_right.1));
}

pub areas_within : (areas : List InlineArea) → All AreaNear areas → All AreaWithin areas
areas_within areas near = All-weaker AreaNear AreaWithin area_within areas near
