-- A table has a placement: rows, then the places of the boxes in its wrapper beside these.
use Rattle.std.proofs.Common.{refl}
use Rattle.lay_flow.specs.Blocks.Laws.{SomeFlowOf}
use Rattle.lay_table.specs.Laws.{SomeTablePlacement}
use Rattle.lay_table.specs.TablePlacements.{placement_of_table}
use Rattle.lay_table.specs.TableStandings.{TablePlaces, columns_of, table_content_corner}
use Rattle.lay_table.specs.WrapperFlow.{boxes_in_wrapper}
use Rattle.lay_table.proofs.SomeTableRows.{some_table_rows_lem}
use Rattle.lay_table.proofs.WrapperBoxes.{is_wrapper_tree}

pub some_table_placement_lem : SomeFlowOf → SomeTablePlacement
some_table_placement_lem flows i =
    let rows = some_table_rows_lem i in
    let flow = flows (boxes_in_wrapper i rows.0.tracks) (is_wrapper_tree i rows.0.tracks) in
    let places : TablePlaces = record { rows = rows.0; columns = columns_of i; flow = flow.0; content = table_content_corner i flow.0 } in (
      placement_of_table i places,
      record {
        places = places;
        has_places = record { rows = rows.1; columns = refl; flow = flow.1; content = refl };
        answer_is = refl;
      },
    )
