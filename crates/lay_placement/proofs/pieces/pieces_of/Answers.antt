use Rattle.lay_placement.proofs.PieceSteps.{one_more_box}
use Rattle.lay_placement.proofs.pieces.pieces_of.Goals as goal

pub loop-k-preserved : goal.loop-k-preserved
loop-k-preserved c =
    one_more_box c.args.of.now.input.now c.args.of.now.places.now c.loop-k.k c.loop-k.pieces c.push_box.new.pieces c.loop-k.invariant (c.in_ok-push_box.ensures {u = tt})
