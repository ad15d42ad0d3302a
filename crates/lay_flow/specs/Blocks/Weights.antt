-- How much the boxes of a block formatting context have to lay out. It bounds how far from the origin they can come to stand.
use Rattle.std.specs.Prelude.{ℕ, zero, suc, ◌+◌, List}
use Rattle.lay_lines.specs.Content.LineContents.{lines_weight}
use Rattle.lay_flow.specs.declared.blocks.flow_box.FlowBox.{FlowBox}
use Rattle.lay_flow.specs.declared.blocks.flow_box.FlowKind.{FlowKind}
use Rattle.lay_flow.specs.declared.blocks.flow_box.FlowKind.TheVariants.{Block as block, Lines as lines, Solid as solid}
use Rattle.lay_flow.specs.declared.blocks.flow_box.FlowKind.TheVariants.{Float as float, LineFloat as line_float, Inline as inline}
use Rattle.lay_flow.specs.Blocks.Boxes.{box_at}

-- each box counts once, and one that holds lines once more for each weight of these
abbrev pub box_weight : FlowKind → ℕ
box_weight (block b) = 1
box_weight (lines l) = 1 + lines_weight l.content
box_weight (solid b) = 1
box_weight (float b) = 1
box_weight (line_float b) = 1
box_weight inline = 1

-- of the boxes before the one at k
abbrev pub weight : List FlowBox → ℕ → ℕ
weight boxes zero = 0
weight boxes (suc k) = weight boxes k + box_weight (box_at boxes k).kind
