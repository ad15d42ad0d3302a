-- What the layout of a formatting context answers: its own box as the one around it takes it, its pieces, counted from the
-- corner of that own box, and where its boxes stand there (CSS 2.2, 9.4).
use Rattle.std.specs.Prelude.{◌≤◌, List, [], length}
use Rattle.lay_frag.specs.declared.frag.Frag.{Frag}
use Rattle.lay_sizes.specs.declared.own_boxes.OwnBox.{OwnBox}
use Rattle.lay_sizes.specs.OwnBoxes.{OwnBoxFits, no_own_box}
use Rattle.lay_placements.specs.declared.standing.Standing.{Standing}
use Rattle.lay_placements.specs.NearPieces.{AreNearPieces}
use Rattle.lay_placements.specs.Standings.{AreNearStandings}

pub record Placement : Type 0 where
  pub own : OwnBox
  pub pieces : List Frag
  pub standings : List Standing

abbrev pub no_placement : Placement
no_placement = record { own = no_own_box; pieces = []; standings = [] }

-- it is near
pub record PlacementFits (p : Placement) : Type 0 where
  pub own : OwnBoxFits p.own
  pub pieces : AreNearPieces p.pieces
  pub few : length p.pieces ≤ 2147483648
  pub standings : AreNearStandings p.standings
