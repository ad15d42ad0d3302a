-- Of each node a piece or none, by a number for each: 0 is none, and any other is one more than the place of the piece in a
-- list.
use Rattle.std.specs.Prelude.{ℕ, zero, suc, ◌<◌, ◌≤◌, List, length, map, slice_get, slice_index, Option, None}
use Rattle.lay_frag.specs.declared.frag.Frag.{Frag}

abbrev pub piece_of : List Frag → ℕ → Option Frag
piece_of pieces zero = None
piece_of pieces (suc n) = slice_get pieces n

abbrev pub node_pieces : List Frag → List ℕ → List (Option Frag)
node_pieces pieces numbers = map (piece_of pieces) numbers

-- each number is one of these pieces', or 0
abbrev pub AreNumbers : List Frag → List ℕ → Type 0
AreNumbers pieces numbers = (k : ℕ) → k < length numbers → slice_index numbers k ≤ length pieces
