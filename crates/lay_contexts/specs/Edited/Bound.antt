-- The bound of what an edit touches: a context whose boxes differ after it, or for one of whose formatting contexts the own boxes around
-- differ in whether they may shrink to fit, has a node among its own that the edit reaches, before it or after it (CSS 2.2, 9.4.1 and
-- 10.3.5). Others stand in both documents.
use Rattle.std.specs.Prelude.{ℕ, ◌≡◌, ◌<◌, ◌⊎◌, ◌↔◌, Bool, true, List, length, slice_index}
use Rattle.lay_style.specs.declared.style.Style.{Style}
use Rattle.lay_doc.specs.declared.edit.Edit.{Edit}
use Rattle.lay_doc.specs.Document.{Document, ids_of}
use Rattle.lay_doc.specs.Edits.{after}
use Rattle.lay_box_tree.specs.declared.box_tree.BoxKind.{BoxKind}
use Rattle.lay_box_tree.specs.declared.box_tree.Flow.{Flow}
use Rattle.lay_contexts.specs.Contexts.{Context, boxes_in, context_at}
use Rattle.lay_contexts.specs.FormattingContextList.{number_of}
use Rattle.lay_contexts.specs.FormattingContexts.{FormattingContext}
use Rattle.lay_contexts.specs.Homes.{is_root}
use Rattle.lay_contexts.specs.Edited.Anchors.{HasAbsoluteBox, IsRestyling, ReachesNode}
use Rattle.lay_contexts.specs.Edited.Shrinking.{AreListsOf, IsWithinOutward, TakesAnonymousTables}
use Rattle.lay_contexts.specs.Edited.Touched.{Edits, HasReached}

-- the id of the element of the context with the number i
abbrev pub root_id : Document → List Context → ℕ → ℕ
root_id d contexts i = slice_index (ids_of d.nodes) (context_at contexts i).place

-- the context with the number j after an edit is that with the number i before it, with the same boxes, and says the same of all its
-- roots: its own box, and the anonymous tables and cells in it
pub record IsBoundUntouched (S : Flow → BoxKind → Style → Bool) (d e : Document) (contexts later : List Context)
    (all rest : List FormattingContext)
    (i j : ℕ) : Type 0 where
  pub within : j < length later
  pub element : root_id e later j ≡ root_id d contexts i
  pub boxes : boxes_in contexts i ≡ boxes_in later j
  pub roots : (r : ℕ) → r < length (boxes_in contexts i) → is_root (boxes_in contexts i) r ≡ true
      → IsWithinOutward S all (number_of contexts i r) ↔ IsWithinOutward S rest (number_of later j r)

abbrev pub EditsTouchNoOthers : Type 0
EditsTouchNoOthers = (S : Flow → BoxKind → Style → Bool) (d : Document) (edit : Edit) (styles others : List Style)
    (contexts later : List Context) (all rest : List FormattingContext)
    → TakesAnonymousTables S → Edits d edit styles others → AreListsOf d styles contexts all → AreListsOf (after d edit) others later rest
    → (i : ℕ) → i < length contexts
    → ((j : ℕ) × IsBoundUntouched S d (after d edit) contexts later all rest i j)
    ⊎ HasReached d styles edit (root_id d contexts i) ⊎ HasReached (after d edit) others edit (root_id d contexts i)

-- Where declarations of an absolute or fixed element change that stays one, of contexts with reached nodes only its own and those inside
-- it are touched: not the one around, which has it as an anchor alone (9.6).
abbrev pub AnchorsTouchNothingAround : Type 0
AnchorsTouchNothingAround = (S : Flow → BoxKind → Style → Bool) (d : Document) (edit : Edit) (styles others : List Style)
    (contexts later : List Context) (all rest : List FormattingContext)
    (element : ℕ) → TakesAnonymousTables S → Edits d edit styles others
    → IsRestyling edit element → HasAbsoluteBox d styles element → HasAbsoluteBox (after d edit) others element
    → AreListsOf d styles contexts all → AreListsOf (after d edit) others later rest → (i : ℕ) → i < length contexts
    → ((j : ℕ) × IsBoundUntouched S d (after d edit) contexts later all rest i j) ⊎ ReachesNode d edit (root_id d contexts i)
