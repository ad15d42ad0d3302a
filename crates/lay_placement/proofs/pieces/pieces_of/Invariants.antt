use Rattle.std.proofs.Common.{◌≡◌}
use Rattle.lay_placement.specs.ContextPieces.{pieces_to}
use Rattle.lay_placement.proofs.pieces.pieces_of.Given as goal

abbrev pub invariant-loop-k : goal.invariant-loop-k
invariant-loop-k l = l.pieces ≡ pieces_to l.of.input.now l.of.places.now l.k
