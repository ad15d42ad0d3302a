use Rattle.std.proofs.Common.{arith}
use Rattle.lay_placements.proofs.SplicedPieces.{inner_spliced, own_spliced}
use Rattle.lay_placements.proofs.splicing.spliced_piece.Goals as goal

pub returns-then-k-eq0 : goal.returns-then-k-eq0
returns-then-k-eq0 c =
    let piece = rw c.if-k-eq0.true at c.piece_at-piece.ensures.piece in
    rw (c.border_box.ensures, c.if-k-eq0.true) (own_spliced c.args.width c.args.standing c.args.pieces.now c.piece_at-piece.result piece)

pub returns : goal.returns
returns c =
    rw (c.moved.ensures, c.sum_of-down.ensures)
    (inner_spliced c.args.width c.args.standing c.args.pieces.now c.args.k c.piece_at-piece.result (omega (arith, c.if-k-eq0.false)) c.piece_at-piece.ensures.piece)
