use Rattle.lay_abspos.proofs.RelativeLemmas.SomeMoves.{some_column_of_moves_lem}
use Rattle.lay_abspos.proofs.relative.laws.some_column_of_moves.Goals as goal

pub returns : goal.returns
returns c = some_column_of_moves_lem
