use Rattle.std.proofs.Common.{List, ap, sym, subst, ◌∙◌}
use Rattle.lay_box_tree.specs.declared.box_tree.BoxNode.{BoxNode}
use Rattle.lay_placements.specs.Placements.{PlacementFits}
use Rattle.lay_placement.specs.OneBox.{only_piece}
use Rattle.lay_placement.proofs.OneBoxPlaces.{is_near, is_placement, placed}
use Rattle.lay_placement.proofs.one_box.placement_of_one.Goals as goal

pub new-requires-3 : goal.new-requires-3
new-requires-3 c =
    let pieces = (c.in_ok-pieces.ensures {u = tt}).ok ∙ c.new.ensures ∙ (c.in_ok-vec.ensures {u = tt}).items in
    let piece = c.only_piece-piece.ensures ∙ ap (λ (boxes : List BoxNode). only_piece boxes c.only_box-own.result.width c.only_standing-standing.result) c.boxes.ensures.boxes in
    let made = placed c.args.input.now.boxes c.only_box-own.result c.only_piece-piece.result c.only_standing-standing.result _ _ c.only_standing-standing.ensures piece pieces (c.in_ok-vec-2.ensures {u = tt}).items in
    subst PlacementFits (sym made) (is_near c.args.input.now.boxes c.only_box-own.result c.only_box-own.ensures.fits)

pub returns : goal.returns
returns c =
    let pieces = (c.in_ok-pieces.ensures {u = tt}).ok ∙ c.new.ensures ∙ (c.in_ok-vec.ensures {u = tt}).items in
    let piece = c.only_piece-piece.ensures ∙ ap (λ (boxes : List BoxNode). only_piece boxes c.only_box-own.result.width c.only_standing-standing.result) c.boxes.ensures.boxes in
    let made = placed c.args.input.now.boxes c.only_box-own.result c.only_piece-piece.result c.only_standing-standing.result _ _ c.only_standing-standing.ensures piece pieces (c.in_ok-vec-2.ensures {u = tt}).items in
    is_placement c.args.input.now c.requires c.boxes.ensures.fits.boxes.own c.new-3.result c.only_box-own.result (c.new-3.ensures ∙ made) c.only_box-own.ensures.value
