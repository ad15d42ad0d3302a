use Rattle.std.proofs.Common.{◌∙◌, sym}
use Rattle.lay_placement.proofs.AtomicSteps.{none_more}
use Rattle.lay_placement.proofs.corners.has_atomic.Goals as goal

pub loop-i-preserved : goal.loop-i-preserved
loop-i-preserved c = none_more c.args.pieces.now c.loop-i.i _ c.loop-i-test.true c.loop-i.invariant (sym c.is_atomic.ensures ∙ c.if-is_atomic.false)
