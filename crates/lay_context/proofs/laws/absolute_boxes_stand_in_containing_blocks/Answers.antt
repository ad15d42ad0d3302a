use Rattle.lay_context.proofs.AbsolutePlaces.{absolute_boxes_stand_in_containing_blocks_lem}
use Rattle.lay_context.proofs.laws.absolute_boxes_stand_in_containing_blocks.Goals as goal

pub returns : goal.returns
returns c = absolute_boxes_stand_in_containing_blocks_lem
