-- A formatting context has a placement: what its boxes are to its block flow, then their places in that, and by how much they are moved.
use Rattle.std.proofs.Common.{refl}
use Rattle.lay_flow.specs.Blocks.Laws.{SomeFlowOf}
use Rattle.lay_flow_boxes.specs.FlowShapes.{measures_in}
use Rattle.lay_placement.proofs.Cited.{is_flow_tree, some_column_of_moves_lem, some_flow_shape_lem}
use Rattle.lay_placement.specs.ContextPlacements.{placement_of}
use Rattle.lay_placement.specs.ContextPlaces.{ContextPlaces}
use Rattle.lay_placement.specs.Laws.{SomePlacement}

pub some_placement_lem : SomeFlowOf → SomePlacement
some_placement_lem flows i are =
    let shape = some_flow_shape_lem i are in
    let flow = flows shape.0.flow_boxes (is_flow_tree (measures_in i shape.0.parts) i.own_height shape.0.lefts shape.0.flow_boxes are shape.1.are_flow_boxes) in
    let moves = some_column_of_moves_lem i.boxes i.sizes are in
    let places : ContextPlaces = record { shape = shape.0; places = flow.0; moves = moves.0 } in (
      placement_of i places,
      record {
        places = places;
        has_places = record { is_shape = shape.1; is_flow = flow.1; has_moves = moves.1 };
        answer_is = refl;
      },
    )
