-- Reading the boxes of a block formatting context. They are listed in document order, each with the place of its parent,
-- and the context's own box stands at the place 0.
use Rattle.std.specs.Prelude.{ℕ, List, map, slice_index_or, None}
use Rattle.lay_units.specs.declared.records.Len.TheVariants.{Auto as auto}
use Rattle.lay_units.specs.Lengths.{no_length}
use Rattle.lay_floats.specs.declared.requests.Clear.TheVariants.{None as clear_none}
use Rattle.lay_flow.specs.declared.blocks.flow_box.FlowBox.{FlowBox}
use Rattle.lay_flow.specs.declared.blocks.flow_box.FlowKind.TheVariants.{Block as block}
use Rattle.lay_flow.specs.declared.blocks.flow_box.BlockBox.{BlockBox}
use Rattle.lay_flow.specs.declared.blocks.flow_box.Across.{Across}

abbrev pub no_across : Across
no_across = record { left = no_length; right = no_length }

-- an empty block box
abbrev pub empty_block : BlockBox
empty_block = record {
  clear = clear_none;
  x = no_length;
  margin = record { top = no_length; bottom = no_length };
  inset = record { top = no_length; bottom = no_length };
  content = no_across;
  height = record { given = auto; min = no_length; max = None };
}

abbrev pub no_flow_box : FlowBox
no_flow_box = record { parent = 0; kind = block empty_block }

abbrev pub box_at : List FlowBox → ℕ → FlowBox
box_at boxes k = slice_index_or boxes k no_flow_box

abbrev pub parent_at : List FlowBox → ℕ → ℕ
parent_at boxes k = (box_at boxes k).parent

-- the list of the place of each box's parent
abbrev pub parents_of : List FlowBox → List ℕ
parents_of boxes = map (λ b. b.parent) boxes
