-- Where boxes of one formatting context stand, a column with an entry for each box: the corner and the height of the border
-- box, and how much further down what is in it stands, as in table cells (CSS 2.2, 17.5.3).
use Rattle.std.specs.Prelude.{ℕ, ◌<◌, List, length, slice_index_or}
use Rattle.lay_units.specs.Units.{IsNear}
use Rattle.lay_units.specs.Lengths.{no_length}
use Rattle.lay_placements.specs.declared.standing.Standing.{Standing}
use Rattle.lay_placements.specs.Corners.{IsCornerNear, no_corner}

abbrev pub no_standing : Standing
no_standing = record { corner = no_corner; height = no_length; shift = no_length }

abbrev pub standing_at : List Standing → ℕ → Standing
standing_at standings k = slice_index_or standings k no_standing

pub record IsStandingNear (s : Standing) : Type 0 where
  pub corner : IsCornerNear s.corner
  pub height : IsNear s.height.0
  pub shift : IsNear s.shift.0

abbrev pub AreNearStandings : List Standing → Type 0
AreNearStandings standings = (k : ℕ) → k < length standings → IsStandingNear (standing_at standings k)
