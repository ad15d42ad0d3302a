use Rattle.std.proofs.Common.{◌≡◌, ◌≤◌, ◌+◌, drop}
use Rattle.lay_placements.specs.PieceParts.{count_of}
use Rattle.lay_placements.proofs.piece_list.count_of.Given as goal

abbrev pub invariant-loop-k : goal.invariant-loop-k
invariant-loop-k l = record {
  counted : l.count + count_of l.kind l.id (drop l.k l.pieces) ≡ count_of l.kind l.id l.pieces;
  few : l.count ≤ l.k;
}
