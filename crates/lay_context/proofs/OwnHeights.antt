-- What a placement is given is within its bounds also where what is given of the height of its own box is that of its used sizes.
use Rattle.std.proofs.Common.{arith}
use Rattle.lay_sizes.specs.SizeColumns.{sizes_at}
use Rattle.lay_flow_boxes.specs.PlaceInputs.{PlaceInput, PlaceInputFits, height_rule_of}
use Rattle.lay_context.proofs.PlaceInputs.{height_rule_fits}

pub own_height_fits : (i : PlaceInput) → PlaceInputFits i → PlaceInputFits (record i { own_height = height_rule_of (sizes_at i.sizes 0) })
own_height_fits i fits = record {
  boxes = fits.boxes;
  size_count = fits.size_count;
  inner_count = fits.inner_count;
  piece_count = fits.piece_count;
  size_bounds = fits.size_bounds;
  inner_bounds = fits.inner_bounds;
  piece_bounds = fits.piece_bounds;
  own_height = (let some = fits.boxes.some in height_rule_fits (sizes_at i.sizes 0) (fits.size_bounds 0 (omega (arith, some, fits.size_count))));
}
