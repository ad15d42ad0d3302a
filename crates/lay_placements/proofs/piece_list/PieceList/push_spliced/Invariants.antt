use Rattle.std.proofs.Common.{◌≡◌, take}
use Rattle.lay_placements.specs.PieceParts.{with_pieces}
use Rattle.lay_placements.specs.Splicing.{spliced}
use Rattle.lay_placements.proofs.piece_list.PieceList.push_spliced.Given as goal

abbrev pub invariant-loop-k : goal.invariant-loop-k
invariant-loop-k l = l.self ≡ with_pieces l.initial.self (take l.k (spliced l.width l.standing l.pieces))
