-- What is known of a formatting context that is ready, and of shared content, is known in one way: the facts have one proof, so that
-- a type may keep them.
use Rattle.std.specs.Prelude.{List}
use Rattle.std.proofs.Props.{props}
use Rattle.lay_box_tree.specs.declared.box_tree.BoxNode.{BoxNode}
use Rattle.lay_face.specs.FaceValue.{FaceValue}
use Rattle.lay_line_items.specs.InlineContents.{KeptSegments}
use Rattle.lay_contexts.specs.FormattingContexts.{FormattingContext}
use Rattle.lay_context_sizes.specs.ContextSizes.{SizedContext}
use Rattle.lay_context.specs.declared.task.Task.{Task}
use Rattle.lay_context.specs.Workings.{Workings}
use Rattle.lay_context.specs.Settling.{AreOfBoxes, IsReady}
use Rattle.lay_context.specs.SharedContents.{HaveContents}

AreOfBoxes-prop : (boxes : List BoxNode) (sized : SizedContext) → IsProp (AreOfBoxes boxes sized)
AreOfBoxes-prop boxes sized = hlevel props

pub IsReady-prop : (contexts : List FormattingContext) (w : Workings) (task : Task) → IsProp (IsReady contexts w task)
IsReady-prop contexts w task = hlevel (props, AreOfBoxes-prop)

pub HaveContents-prop : (face : FaceValue) (contexts : List FormattingContext) (contents : List KeptSegments)
    → IsProp (HaveContents face contexts contents)
HaveContents-prop face contexts contents = hlevel props
