-- Corners of border boxes, beside each other in a column with an entry for each box, and within which bounds they are.
use Rattle.std.specs.Prelude.{ℕ, ◌<◌, List, length, slice_index_or}
use Rattle.lay_units.specs.Units.{IsNear}
use Rattle.lay_units.specs.Lengths.{no_length}
use Rattle.lay_placements.specs.declared.corner.Corner.{Corner}

abbrev pub no_corner : Corner
no_corner = record { x = no_length; y = no_length }

abbrev pub corner_at : List Corner → ℕ → Corner
corner_at corners i = slice_index_or corners i no_corner

pub record IsCornerNear (c : Corner) : Type 0 where
  pub x : IsNear c.x.0
  pub y : IsNear c.y.0

abbrev pub AreNearCorners : List Corner → Type 0
AreNearCorners corners = (i : ℕ) → i < length corners → IsCornerNear (corner_at corners i)
