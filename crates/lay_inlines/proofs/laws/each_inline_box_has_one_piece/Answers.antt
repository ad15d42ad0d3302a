use Rattle.lay_inlines.proofs.NamedPieces.{each_inline_box_lem}
use Rattle.lay_inlines.proofs.laws.each_inline_box_has_one_piece.Goals as goal

pub returns : goal.returns
returns c = each_inline_box_lem
