-- The placement of a table (CSS 2.2, 17.4 and 17.5.3): its wrapper as the formatting context around it takes that, its pieces, and where
-- its boxes stand. "The baseline of an 'inline-table' is the baseline of the first row of the table."
use Rattle.std.specs.Prelude.{ℕ, zero, suc, ◌≡◌, ◌+ℤ◌, List, [], ◌∷◌, ◌++◌, length, Option, Some, None}
use Rattle.lay_units.specs.declared.length.Unit.{Unit as Length}
use Rattle.lay_flow.specs.Blocks.FlowPlaces.{box_place_at}
use Rattle.lay_placements.specs.declared.standing.Standing.{Standing}
use Rattle.lay_placements.specs.Placements.{Placement}
use Rattle.lay_sizes.specs.OwnBoxes.{own_box}
use Rattle.lay_sizes.specs.SizeColumns.{sizes_at}
use Rattle.lay_table.specs.TableInputs.{TableInput}
use Rattle.lay_table.specs.TableRows.{row_baseline}
use Rattle.lay_table.specs.Tracks.{start_of}
use Rattle.lay_table.specs.TablePieces.{pieces_to}
use Rattle.lay_table.specs.TableStandings.{HasTablePlaces, TablePlaces, standing_of}

-- the baseline of the first row, below the top of the wrapper
abbrev pub first_row_baseline : TablePlaces → Option Length
first_row_baseline p = of p.rows.tracks.lengths
  where
    of : List Length → Option Length
    of [] = None
    of (height ∷ heights) = Some (record { 0 = p.content.y.0 +ℤ start_of p.rows.tracks 0 +ℤ (row_baseline p.rows 0).0 })

-- where the first n boxes stand
abbrev pub table_standings_to : TableInput → TablePlaces → (n : ℕ) → List Standing
table_standings_to i p zero = []
table_standings_to i p (suc k) = table_standings_to i p k ++ standing_of i p k ∷ []

abbrev pub placement_of_table : TableInput → TablePlaces → Placement
placement_of_table i p = record {
  own = own_box (sizes_at i.sizes 0) (box_place_at p.flow.boxes 0).height (first_row_baseline p);
  pieces = pieces_to i p (length i.boxes);
  standings = table_standings_to i p (length i.boxes);
}

-- this is the placement of the table
pub record IsTablePlacement (i : TableInput) (answer : Placement) : Type 0 where
  pub places : TablePlaces
  pub has_places : HasTablePlaces i places
  pub answer_is : answer ≡ placement_of_table i places
