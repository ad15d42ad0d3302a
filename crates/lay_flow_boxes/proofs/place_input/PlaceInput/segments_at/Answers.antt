use Rattle.lay_flow_boxes.proofs.place_input.PlaceInput.segments_at.Goals as goal

pub returns : goal.returns
returns c = rw (← c.self.view_is) (c.at.ensures.content c.self.inside.face.value c.self.inside.boxes c.self.invariant.1)
