-- The placement of a formatting context is the only one beside what it is given.
use Rattle.std.proofs.Common.{◌≡◌, sym, ap, ◌∙◌}
use Rattle.lay_flow.specs.Blocks.FlowPlaces.{IsFlowOf}
use Rattle.lay_placement.proofs.Cited.{is_flow_tree, one_column_of_moves_lem, one_flow_of_lem, one_flow_shape_lem}
use Rattle.lay_box_tree.specs.ContextBoxes.{AreContextBoxes}
use Rattle.lay_flow_boxes.specs.FlowShapes.{measures_in}
use Rattle.lay_flow_boxes.specs.PlaceInputs.{PlaceInput}
use Rattle.lay_placement.specs.ContextPlacements.{placement_of}
use Rattle.lay_placement.specs.ContextPlaces.{ContextPlaces, HasPlaces}
use Rattle.lay_placement.specs.Laws.{OnePlacement}

one_places : (i : PlaceInput) (p q : ContextPlaces) → AreContextBoxes i.boxes → HasPlaces i p → HasPlaces i q → p ≡ q
one_places i p q are a b =
    let shape = one_flow_shape_lem i p.shape q.shape are a.is_shape b.is_shape in
    let flows : IsFlowOf p.shape.flow_boxes q.places = rw shape b.is_flow in
    let tree = is_flow_tree (measures_in i p.shape.parts) i.own_height p.shape.lefts p.shape.flow_boxes are a.is_shape.are_flow_boxes in
    let places = one_flow_of_lem p.shape.flow_boxes p.places q.places tree a.is_flow flows in
    let moves = one_column_of_moves_lem i.boxes i.sizes p.moves q.moves are a.has_moves b.has_moves in
    λ n. record { shape = shape n; places = places n; moves = moves n }

pub one_placement_lem : OnePlacement
one_placement_lem i p q are a b =
    let same = one_places i a.places b.places are a.has_places b.has_places in
    a.answer_is ∙ ap (placement_of i) same ∙ sym b.answer_is
