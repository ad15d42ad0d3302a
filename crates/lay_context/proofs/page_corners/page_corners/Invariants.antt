use Rattle.std.proofs.Common.{◌≡◌, length}
use Rattle.lay_placements.specs.Corners.{AreNearCorners}
use Rattle.lay_context.proofs.CornerSteps.{PageCornersTo}
use Rattle.lay_context.proofs.page_corners.page_corners.Given as goal

abbrev pub invariant-loop-i : goal.invariant-loop-i
invariant-loop-i g l = record {
  counted : length l.corners.items ≡ l.i;
  corners : PageCornersTo l.laid.contexts.now (g.V.Values.workings l.laid.known.now).places l.corners.items;
  near : AreNearCorners l.corners.items;
}
