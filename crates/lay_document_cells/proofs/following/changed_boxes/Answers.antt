use Rattle.std.proofs.Common.{Bool, List, ◌∙◌, subst}
use Rattle.lay_contexts.specs.Contexts.{Context}
use Rattle.lay_shape.specs.KeptShapes.KeptBoxes.{AreBoxFlags}
use Rattle.lay_document_cells.proofs.Cited.{keep-boxes}
use Rattle.lay_document_cells.proofs.following.changed_boxes.Goals as goal

pub returns : goal.returns
returns c =
    let flags : List Bool = c.in_ok-flags.flags.items in
    keep-boxes c.args.before.now.lists.contexts c.args.later.now.lists.contexts flags c.requires
    (subst (λ (l : List Context). AreBoxFlags c.args.before.now.lists.contexts l flags) (c.contexts-2.ensures ∙ c.cells-2.ensures.contexts)
    (subst (λ (b : List Context). AreBoxFlags b c.contexts-2.result.now flags) (c.contexts.ensures ∙ c.cells.ensures.contexts) c.in_ok-flags.ensures))
