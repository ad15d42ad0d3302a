-- What a formatting context answers of places: its placement (CSS 2.2, 9.4), and, where no one around it says so, where it stands
-- itself: the root's on the page, and an absolutely positioned one in the one around it (9.6). The offset of another one is nothing.
use Rattle.std.specs.Prelude.{ℕ, List, slice_index_or}
use Rattle.lay_placements.specs.declared.corner.Corner.{Corner}
use Rattle.lay_placements.specs.Corners.{no_corner}
use Rattle.lay_placements.specs.Placements.{Placement, no_placement}

pub record PlacedContext : Type 0 where
  pub placement : Placement
  pub offset : Corner

abbrev pub not_placed : PlacedContext
not_placed = record { placement = no_placement; offset = no_corner }

-- that of the formatting context with this number
abbrev pub placed_in : List PlacedContext → ℕ → PlacedContext
placed_in places i = slice_index_or places i not_placed

abbrev pub placement_in : List PlacedContext → ℕ → Placement
placement_in places i = (placed_in places i).placement
