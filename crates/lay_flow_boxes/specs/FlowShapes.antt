-- The boxes of one formatting context as its block flow takes them: which parts of inline boxes they are (CSS 2.2, 8.6), their
-- left border edges where no float is beside them (10.3.3), and what each is to the flow (9.4.1, 9.4.2 and 9.5).
use Rattle.std.specs.Prelude.{ℕ, ◌^◌, List}
use Rattle.lay_units.specs.declared.length.Unit.{Unit as Length}
use Rattle.lay_box_tree.specs.declared.inline_part.InlinePart.{InlinePart}
use Rattle.lay_box_tree.specs.InlineParts.{AreInlineParts}
use Rattle.lay_line_measures.specs.BoxMeasuresValue.{BoxMeasuresValue}
use Rattle.lay_flow.specs.declared.blocks.flow_box.FlowBox.{FlowBox}
use Rattle.lay_flow_boxes.specs.ContextBlocks.{AreFlowBoxesOf, HasLefts}
use Rattle.lay_flow_boxes.specs.PlaceInputs.{PlaceInput}

pub record FlowShape : Type 0 where
  pub parts : List InlinePart
  pub lefts : List Length
  pub flow_boxes : List FlowBox

-- what the content of lines is measured by
abbrev pub measures_in : PlaceInput → List InlinePart → BoxMeasuresValue
measures_in i parts = record { boxes = i.boxes; parts = parts; sizes = i.sizes; inner = i.inner; face = i.face }

-- the most boxes of a formatting context that block flow takes
abbrev pub most_flow_boxes : ℕ
most_flow_boxes = 2 ^ 23

-- this is what they are
pub record IsFlowShape (i : PlaceInput) (s : FlowShape) : Type 0 where
  pub are_parts : AreInlineParts i.boxes s.parts
  pub has_lefts : HasLefts i.boxes i.sizes i.inner s.lefts
  pub are_flow_boxes : AreFlowBoxesOf (measures_in i s.parts) i.own_height s.lefts s.flow_boxes
