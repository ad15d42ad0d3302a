use Rattle.std.proofs.Common.{◌≡◌, take}
use Rattle.std.specs.List.{flat_map}
use Rattle.lay_placements.specs.PieceParts.{with_pieces}
use Rattle.lay_placement.specs.ContextPieces.{pieces_on_line}
use Rattle.lay_placement.proofs.pieces.push_lines.Given as goal

abbrev pub invariant-loop-k : goal.invariant-loop-k
invariant-loop-k l = l.pieces ≡ with_pieces l.initial.pieces (flat_map (pieces_on_line l.of.input.now l.of.places.now) (take l.k l.on_lines))
