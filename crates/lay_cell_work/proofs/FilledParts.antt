-- What is filled in is within the bounds of what a placement is given.
use Rattle.std.proofs.Common.{◌≡◌, List, length, arith, ◌∙◌}
use Rattle.lay_frag.specs.declared.frag.Frag.{Frag}
use Rattle.lay_sizes.specs.declared.own_boxes.OwnBox.{OwnBox}
use Rattle.lay_sizes.specs.OwnBoxes.{OwnBoxesFit}
use Rattle.lay_sizes.specs.SizeColumns.{sizes_at}
use Rattle.lay_placements.specs.InnerPieces.{AreNearInnerPieces}
use Rattle.lay_flow_boxes.specs.PlaceInputs.{PlaceInput, PlaceInputFits, height_rule_of}
use Rattle.lay_table.specs.TableInputs.{TableInput, TableInputFits}
use Rattle.lay_cell_work.proofs.Cited.{own_height_fits}

pub refilled_flow : (i : PlaceInput) (inner : List OwnBox) (pieces : List (List Frag)) → PlaceInputFits i → length inner ≡ length i.inner → length pieces ≡ length i.pieces
    → OwnBoxesFit inner → AreNearInnerPieces pieces → PlaceInputFits (record i { inner = inner; pieces = pieces; own_height = height_rule_of (sizes_at i.sizes 0) })
refilled_flow i inner pieces fits boxes lists fit near = own_height_fits (record i { inner = inner; pieces = pieces }) (record {
  boxes = fits.boxes;
  size_count = fits.size_count;
  inner_count = boxes ∙ fits.inner_count;
  piece_count = (let few = fits.piece_count in omega (arith, lists, few));
  size_bounds = fits.size_bounds;
  inner_bounds = fit;
  piece_bounds = near;
  own_height = fits.own_height;
})

pub refilled_table : (i : TableInput) (inner : List OwnBox) (pieces : List (List Frag)) → TableInputFits i → length inner ≡ length i.inner
    → OwnBoxesFit inner → TableInputFits (record i { inner = inner; pieces = pieces })
refilled_table i inner pieces fits boxes fit = record {
  boxes = fits.boxes;
  size_count = fits.size_count;
  inner_count = boxes ∙ fits.inner_count;
  size_bounds = fits.size_bounds;
  inner_bounds = fit;
  places = fits.places;
}
