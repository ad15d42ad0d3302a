use Rattle.std.proofs.Common.{◌≡◌, [], map, take}
use Rattle.lay_placements.specs.InnerPieces.{AreNearInnerPieces, pieces_or_none}
use Rattle.lay_cell_work.specs.CellColumns.{filled}
use Rattle.lay_cell_work.specs.CellValues.{Places, own_pieces}
use Rattle.lay_cell_work.proofs.columns.filled_pieces.Given as goal

abbrev pub invariant-loop-k : goal.invariant-loop-k
invariant-loop-k l = record {
  pieces : map pieces_or_none l.pieces.items ≡ take l.k (filled [] (own_pieces (Places l.places)) l.links l.given);
  near : AreNearInnerPieces (map pieces_or_none l.pieces.items);
}
