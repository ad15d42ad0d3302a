use Rattle.std.proofs.Common.{arith, ap, length}
use Rattle.lay_placement.proofs.PieceSteps.{nothing_beyond}
use Rattle.lay_placement.proofs.pieces.push_inner.Goals as goal

pub returns-then-k-boxes : goal.returns-then-k-boxes
returns-then-k-boxes c =
    let counted = ap length c.boxes.ensures.boxes in
    nothing_beyond c.args.of.now.input.now c.args.of.now.places.now c.args.k c.args.pieces.now (omega (arith, c.if-k-boxes.true, counted, c.boxes.ensures.fits.piece_count))
