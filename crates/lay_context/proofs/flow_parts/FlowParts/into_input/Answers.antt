use Rattle.lay_context.proofs.OwnHeights.{own_height_fits}
use Rattle.lay_context.proofs.flow_parts.FlowParts.into_input.Goals as goal

pub new-input-requires : goal.new-input-requires
new-input-requires c = rw c.into_inner-pieces.ensures.pieces (own_height_fits _ c.self.invariant)
