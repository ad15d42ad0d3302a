-- The pieces of the anonymous formatting contexts in one: a list for each box, which is empty where the box isn't that of an
-- anonymous formatting context. Each list is counted from the corner of that box, and begins with its border box.
use Rattle.std.specs.Prelude.{ℕ, List, [], slice_index_or, Option, Some, None}
use Rattle.std.specs.Arc.{arc_value}
use Rattle.std.specs.declared.sync.Arc.{Arc}
use Rattle.lay_frag.specs.declared.frag.Frag.{Frag}
use Rattle.lay_placements.specs.NearPieces.{AreNearPieces}

abbrev pub pieces_or_none : {Z : Type 0} → Option (Arc (List Frag) Z) → List Frag
pieces_or_none None = []
pieces_or_none (Some pieces) = arc_value pieces

abbrev pub inner_pieces_at : List (List Frag) → ℕ → List Frag
inner_pieces_at inner k = slice_index_or inner k []

abbrev pub AreNearInnerPieces : List (List Frag) → Type 0
AreNearInnerPieces inner = (k : ℕ) → AreNearPieces (inner_pieces_at inner k)
