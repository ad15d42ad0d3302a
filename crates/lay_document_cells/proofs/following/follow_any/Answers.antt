use Rattle.std.proofs.Common.{◌∙◌, ap, sym, subst}
use Rattle.lay_shape.specs.Shapes.{shape_of}
use Rattle.lay_shape.specs.KeptShapes.KeptBoxes.{KeepBoxes}
use Rattle.lay_document_cells.proofs.following.follow_any.Goals as goal

pub changed_boxes-requires : goal.changed_boxes-requires
changed_boxes-requires c = c.is_shape_kept.ensures.nodes c.if-is_shape_kept.true

pub follow_boxes-requires-clause-boxes : goal.follow_boxes-requires-clause-boxes
follow_boxes-requires-clause-boxes c =
    subst (KeepBoxes c.args.before.now.lists.contexts c.args.later.now.lists.contexts) (sym c.deref.ensures.value) c.in_ok-changed.ensures

pub follow_boxes-requires-clause-shape : goal.follow_boxes-requires-clause-shape
follow_boxes-requires-clause-shape c =
    ap shape_of (sym c.cells.ensures.contexts) ∙ sym c.in_ok-shape.ensures ∙ sym (c.is_shape_kept.ensures.shape c.if-is_shape_kept.true) ∙ c.requires.shaped

pub returns-then-is_shape_kept-clause-kept : goal.returns-then-is_shape_kept-clause-kept
returns-then-is_shape_kept-clause-kept c = record {
  boxes = c.in_ok-changed.ensures;
  shape =
      ap shape_of (sym c.cells.ensures.contexts) ∙ sym c.in_ok-shape.ensures ∙ sym (c.is_shape_kept.ensures.shape c.if-is_shape_kept.true) ∙ c.requires.shaped;
}
