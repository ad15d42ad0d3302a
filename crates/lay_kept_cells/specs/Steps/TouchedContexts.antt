-- Which contexts an edit may touch, as found by comparison (CSS 2.2, 9.4.1 and 10.3.5): those that have a node among their own which the
-- edit reaches, before it or after it. All others were there with the same boxes, measured where they were.
use Rattle.std.specs.Prelude.{ℕ, ◌<◌, ◌⊎◌, List, length}
use Rattle.lay_style.specs.declared.style.Style.{Style}
use Rattle.lay_doc.specs.declared.edit.Edit.{Edit}
use Rattle.lay_doc.specs.Document.{Document}
use Rattle.lay_doc.specs.Edits.{after}
use Rattle.lay_contexts.specs.Contexts.{Context}
use Rattle.lay_contexts.specs.FormattingContexts.{FormattingContext}
use Rattle.lay_contexts.specs.Edited.Bound.{root_id}
use Rattle.lay_contexts.specs.Edited.Shrinking.{AreListsOf}
use Rattle.lay_contexts.specs.Edited.Touched.{Edits, HasReached}
use Rattle.lay_shape.specs.Touched.TouchedContexts.{IsUntouched}

abbrev pub TouchedContextsAreReached : Type 0
TouchedContextsAreReached = (d : Document) (edit : Edit) (styles others : List Style)
    (contexts later : List Context) (all rest : List FormattingContext)
    → Edits d edit styles others → AreListsOf d styles contexts all → AreListsOf (after d edit) others later rest
    → (j : ℕ) → j < length later
    → IsUntouched contexts later all rest j
    ⊎ HasReached d styles edit (root_id (after d edit) later j) ⊎ HasReached (after d edit) others edit (root_id (after d edit) later j)
