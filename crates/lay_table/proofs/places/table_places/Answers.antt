use Rattle.std.proofs.Common.{rules, ◌≡◌, length}
use Rattle.lay_flow.specs.Blocks.FlowPlaces.{IsFlowOf}
use Rattle.lay_table.specs.TableStandings.{columns_of, table_content_corner}
use Rattle.lay_table.specs.WrapperFlow.{boxes_in_wrapper, places_in_wrapper}
use Rattle.lay_table.proofs.places.table_places.Goals as goal

pub returns-clause-places : goal.returns-clause-places
returns-clause-places c =
    let columns : c.in_ok-columns.columns ≡ columns_of c.args.input.now = search rules in
    let flow : IsFlowOf (boxes_in_wrapper c.args.input.now c.in_ok-rows.rows.tracks) c.in_ok-flow.flow = search rules in
    let content : c.in_ok-content.content ≡ table_content_corner c.args.input.now c.in_ok-flow.flow = search rules in
    record { rows = (c.in_ok-rows.ensures {u = tt}).rows; columns = columns; flow = flow; content = content }

pub returns-clause-fit : goal.returns-clause-fit
returns-clause-fit c =
    let columns : length c.in_ok-columns.columns.lengths ≡ c.args.input.now.table.grid.columns = search rules in
    let flow : length c.in_ok-flow.flow.boxes ≡ length (places_in_wrapper c.args.input.now) = search rules in
    record { rows = (c.in_ok-rows.ensures {u = tt}).fit; columns = columns; flow = flow; content = (c.in_ok-content.ensures {u = tt}).near }
