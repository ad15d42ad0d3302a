-- The used sizes of boxes beside each other, a column with an entry for each box. A box that is sized elsewhere has no
-- sizes.
use Rattle.std.specs.Prelude.{ℕ, ◌<◌, List, length, slice_index_or, None}
use Rattle.lay_units.specs.declared.records.Len.TheVariants.{Auto as auto}
use Rattle.lay_units.specs.declared.records.Sides.{Sides}
use Rattle.lay_units.specs.Lengths.{no_length}
use Rattle.lay_widths.specs.declared.widths.BlockOut.{BlockOut}
use Rattle.lay_sizes.specs.declared.sizing.BoxSizes.{BoxSizes}
use Rattle.lay_sizes.specs.SizeBounds.{SizeFits}

abbrev pub no_block_widths : BlockOut
no_block_widths = record { margin_left = no_length; width = no_length; margin_right = no_length }

abbrev pub no_edges : Sides
no_edges = record { top = no_length; right = no_length; bottom = no_length; left = no_length }

abbrev pub no_sizes : BoxSizes
no_sizes = record {
  containing = no_length;
  widths = no_block_widths;
  edges = no_edges;
  margin_top = no_length;
  margin_bottom = no_length;
  height = auto;
  min_height = no_length;
  max_height = None;
}

abbrev pub sizes_at : List BoxSizes → ℕ → BoxSizes
sizes_at sizes k = slice_index_or sizes k no_sizes

abbrev pub HaveSizeBounds : List BoxSizes → Type 0
HaveSizeBounds sizes = (k : ℕ) → k < length sizes → SizeFits (sizes_at sizes k)
