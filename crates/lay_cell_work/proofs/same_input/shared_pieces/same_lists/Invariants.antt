use Rattle.std.proofs.Common.{◌≡◌, ◌<◌, ℕ, map, slice_get}
use Rattle.lay_placements.specs.InnerPieces.{pieces_or_none}
use Rattle.lay_cell_work.proofs.same_input.shared_pieces.same_lists.Given as goal

abbrev pub invariant-loop-k : goal.invariant-loop-k
invariant-loop-k l = (m : ℕ) → m < l.k → slice_get (map pieces_or_none l.a) m ≡ slice_get (map pieces_or_none l.b) m
