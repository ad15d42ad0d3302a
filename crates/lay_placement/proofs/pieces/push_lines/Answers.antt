use Rattle.lay_placement.proofs.PieceSteps.{at_line_piece}
use Rattle.lay_placement.proofs.pieces.push_lines.Goals as goal

pub loop-k-preserved : goal.loop-k-preserved
loop-k-preserved c =
    at_line_piece c.args.of.now.input.now c.args.of.now.places.now c.args.pieces.now c.args.on_lines.now c.loop-k.k _ c.loop-k.pieces c.push_line_piece.new.pieces c.loop-k-test.true c.loop-k.invariant (c.in_ok-push_line_piece.ensures {u = tt})
