use Rattle.lay_measure.proofs.measure_in.MeasureIn.segments_at.Goals as goal

pub returns-in-Some : goal.returns-in-Some
returns-in-Some c =
    let are = rw c.in-Some.is at c.self.invariant.1 in
    rw (← c.self.view_is) (c.at.ensures.content c.self.inside.face.now c.self.inside.boxes.now are)
