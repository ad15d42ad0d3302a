use Rattle.lay_inlines.proofs.AtomicPieces.{one_piece_lem}
use Rattle.lay_inlines.proofs.laws.each_atomic_box_has_one_piece.Goals as goal

pub returns : goal.returns
returns c = one_piece_lem
