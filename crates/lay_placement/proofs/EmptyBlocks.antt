-- A block in which nothing stands.
use Rattle.std.proofs.Common.{◌≡◌, ℤ, pos, ◌-ℤ◌, ◌+ℤ◌, arith}
use Rattle.std.proofs.lemmas.Int.{ints}
use Rattle.lay_units.specs.declared.records.Len.TheVariants as len
use Rattle.lay_flow.specs.declared.blocks.flow_box.HeightRule.{HeightRule}
use Rattle.lay_flow.specs.Blocks.BlockSizes.{BlockFits}
use Rattle.lay_sizes.specs.declared.sizing.BoxSizes.{BoxSizes}
use Rattle.lay_sizes.specs.SizeBounds.{SizeFits}
use Rattle.lay_flow_boxes.specs.PlaceInputs.{HeightRuleFits}
use Rattle.lay_placement.proofs.Cited.{given_fits}
use Rattle.lay_placement.specs.OneBox.{block_of_height}

-- it is within the bounds of blocks
pub empty_fits : (z : BoxSizes) (height : HeightRule) → SizeFits z → HeightRuleFits height → BlockFits (block_of_height z height)
empty_fits z height fits rule = record {
  margin_top = fits.margin_top;
  margin_bottom = fits.margin_bottom;
  edge_top = fits.top;
  edge_bottom = fits.bottom;
  height = given_fits height.given rule.given;
  min_height = rule.min;
}

-- its content has no height
pub no_content : (top : ℤ) → top -ℤ (pos 0 +ℤ top) ≡ pos 0
no_content top = omega (arith, ints)
