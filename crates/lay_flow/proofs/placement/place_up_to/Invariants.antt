use Rattle.std.proofs.Common.{◌≤◌, length}
use Rattle.lay_flow.specs.Pass.Knows.{AreExtentsKept}
use Rattle.lay_flow.specs.Pass.Known.{ArePlaced, GoesOn}
use Rattle.lay_flow.proofs.placement.place_up_to.Given as goal

abbrev pub invariant-loop-k : goal.invariant-loop-k
invariant-loop-k l =
    (length l.fn.placing.places.items ≤ l.k)
    × ArePlaced l.of.boxes.list.now l.of.marks.now l.placing l.k
    × GoesOn l.of.boxes.list.now l.of.marks.now l.fn.placing l.placing
    × AreExtentsKept l.of.boxes.list.now (length l.fn.placing.places.items) l.fn.placing.extents.items l.placing.extents.items
