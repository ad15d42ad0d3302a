use Rattle.lay_abspos.proofs.RelativeLemmas.OneMoves.{one_column_of_moves_lem}
use Rattle.lay_abspos.proofs.relative.laws.one_column_of_moves.Goals as goal

pub returns : goal.returns
returns c = one_column_of_moves_lem
