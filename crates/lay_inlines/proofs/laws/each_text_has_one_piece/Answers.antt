use Rattle.lay_inlines.proofs.NamedPieces.{each_text_lem, no_text_twice_lem}
use Rattle.lay_inlines.proofs.laws.each_text_has_one_piece.Goals as goal

pub returns : goal.returns
returns c = record { some = each_text_lem; once = no_text_twice_lem }
