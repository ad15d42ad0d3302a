use Rattle.std.proofs.Common.{◌≡◌}
use Rattle.lay_table.specs.TablePieces.{pieces_to}
use Rattle.lay_table.proofs.pieces.pieces_of.Given as goal

abbrev pub invariant-loop-k : goal.invariant-loop-k
invariant-loop-k l = l.pieces ≡ pieces_to l.input l.places l.k
