-- Which contexts a list of edits may touch, as found by comparison of what stands before the list and after it (CSS 2.2, 9.4.1): a context
-- that is there after the list was there before it with the same boxes, or some edit of the list reached one of its own nodes, and behind
-- that edit it stayed as it was.
use Rattle.std.specs.Prelude.{ℕ, ◌≡◌, ◌<◌, ◌⊎◌, List, [], ◌∷◌, ◌++◌, length}
use Rattle.lay_style.specs.declared.style.Style.{Style}
use Rattle.lay_doc.specs.declared.edit.Edit.{Edit}
use Rattle.lay_doc.specs.Document.{Document}
use Rattle.lay_doc.specs.Edits.{after}
use Rattle.lay_contexts.specs.Contexts.{Context}
use Rattle.lay_contexts.specs.FormattingContexts.{FormattingContext}
use Rattle.lay_contexts.specs.Edited.Bound.{root_id}
use Rattle.lay_contexts.specs.Edited.Shrinking.{AreListsOf}
use Rattle.lay_contexts.specs.Edited.Touched.{Edits, HasReached}
use Rattle.lay_shape.specs.Touched.TouchedContexts.{IsUntouched, IsUntouchedFrom}

-- a document with its computed styles, its contexts and its formatting contexts
pub record ListedDocument : Type 0 where
  pub document : Document
  pub styles : List Style
  pub contexts : List Context
  pub formatting_contexts : List FormattingContext

abbrev pub HasLists : ListedDocument → Type 0
HasLists x = AreListsOf x.document x.styles x.contexts x.formatting_contexts

-- an accepted edit makes this document of that one
pub record IsEdited (before : ListedDocument) (edit : Edit) (next : ListedDocument) : Type 0 where
  pub edits : Edits before.document edit before.styles next.styles
  pub document : next.document ≡ after before.document edit
  pub lists_before : HasLists before
  pub lists_after : HasLists next

-- edits, one after another, lead from one document to another one
pub data EditsLead (from : ListedDocument) : List Edit → ListedDocument → Type 0 where
  none : EditsLead from [] from
  then : (edits : List Edit) (mid : ListedDocument) (edit : Edit) (to : ListedDocument) → EditsLead from edits mid → IsEdited mid edit to
      → EditsLead from (edits ++ edit ∷ []) to

-- the context with the number j of the later document was there in the earlier one, with the number i
abbrev pub StaysFrom : (earlier later : ListedDocument) (i j : ℕ) → Type 0
StaysFrom earlier later i j = IsUntouchedFrom earlier.contexts later.contexts earlier.formatting_contexts later.formatting_contexts i j

-- One edit of the list reached an own node of the context, before the edit or after it; behind that edit the context stayed, and its
-- number there is i.
pub record IsReachedOnTheWay (from : ListedDocument) (edits : List Edit) (to : ListedDocument) (j : ℕ) : Type 0 where
  pub first : List Edit
  pub edit : Edit
  pub rest : List Edit
  pub edits_are : edits ≡ first ++ edit ∷ rest
  pub before : ListedDocument
  pub next : ListedDocument
  pub led : EditsLead from first before
  pub edited : IsEdited before edit next
  pub leads : EditsLead next rest to
  pub i : ℕ
  pub stays : StaysFrom next to i j
  pub reached : HasReached before.document before.styles edit (root_id next.document next.contexts i)
      ⊎ HasReached next.document next.styles edit (root_id next.document next.contexts i)

abbrev pub ListsTouchReachedContexts : Type 0
ListsTouchReachedContexts = (from to : ListedDocument) (edits : List Edit) (j : ℕ) → EditsLead from edits to → j < length to.contexts
    → IsUntouched from.contexts to.contexts from.formatting_contexts to.formatting_contexts j ⊎ IsReachedOnTheWay from edits to j
