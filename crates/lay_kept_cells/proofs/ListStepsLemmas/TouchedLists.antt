-- A context that no edit of a list reaches stays through all of them.
use Rattle.std.proofs.Common.{◌≡◌, ◌⊎◌, ◌<◌, ℕ, List, [], ◌∷◌, ◌++◌, length, inl, inr, refl, ap, sym, subst, ◌∙◌, append_assoc}
use Rattle.lay_doc.specs.declared.edit.Edit.{Edit}
use Rattle.lay_doc.specs.Document.{Document}
use Rattle.lay_doc.specs.Edits.{after}
use Rattle.lay_contexts.specs.Edited.Bound.{root_id}
use Rattle.lay_contexts.specs.Edited.Shrinking.{AreListsOf}
use Rattle.lay_contexts.specs.Edited.Touched.{HasReached}
use Rattle.lay_shape.specs.Touched.TouchedContexts.{IsUntouched}
use Rattle.lay_kept_cells.specs.ListSteps.TouchedLists.{EditsLead, IsEdited, IsReachedOnTheWay, ListedDocument, ListsTouchReachedContexts, StaysFrom, none, then}
use Rattle.lay_kept_cells.specs.Steps.TouchedContexts.{TouchedContextsAreReached}

stays_itself : (x : ListedDocument) (j : ℕ) → j < length x.contexts → StaysFrom x x j j
stays_itself x j lt = record { within = lt; node = refl; boxes = refl; measured = refl }

stays_on : (x y z : ListedDocument) (i j k : ℕ) → StaysFrom x y i j → StaysFrom y z j k → StaysFrom x z i k
stays_on x y z i j k a b = record {
  within = a.within;
  node = a.node ∙ b.node;
  boxes = a.boxes ∙ b.boxes;
  measured = a.measured ∙ b.measured;
}

-- what the law of one edit says
abbrev AfterOne : ListedDocument → Edit → ListedDocument → Document → ℕ → Type 0
AfterOne mid edit to document j =
    IsUntouched mid.contexts to.contexts mid.formatting_contexts to.formatting_contexts j
    ⊎ HasReached mid.document mid.styles edit (root_id document to.contexts j) ⊎ HasReached document to.styles edit (root_id document to.contexts j)

after_one : TouchedContextsAreReached → (mid : ListedDocument) (edit : Edit) (to : ListedDocument) → IsEdited mid edit to → (j : ℕ) → j < length to.contexts
    → AfterOne mid edit to to.document j
after_one one mid edit to is j lt =
    subst (λ (d : Document). AfterOne mid edit to d j) (sym is.document)
    (one mid.document edit mid.styles to.styles mid.contexts to.contexts mid.formatting_contexts to.formatting_contexts is.edits is.lists_before
    (subst (λ (d : Document). AreListsOf d to.styles to.contexts to.formatting_contexts) is.document is.lists_after) j lt)

-- reached on the way to a document, with one edit more behind it
further : (from mid : ListedDocument) (edits : List Edit) (edit : Edit) (to : ListedDocument) (i j : ℕ) → IsEdited mid edit to
    → StaysFrom mid to i j → IsReachedOnTheWay from edits mid i → IsReachedOnTheWay from (edits ++ edit ∷ []) to j
further from mid edits edit to i j is stays way = record {
  first = way.first;
  edit = way.edit;
  rest = way.rest ++ edit ∷ [];
  edits_are = ap (λ (es : List Edit). es ++ edit ∷ []) way.edits_are ∙ append_assoc way.first (way.edit ∷ way.rest) (edit ∷ []);
  before = way.before;
  next = way.next;
  led = way.led;
  edited = way.edited;
  leads = then way.rest mid edit to way.leads is;
  i = way.i;
  stays = stays_on way.next mid to way.i i j way.stays stays;
  reached = way.reached;
}

pub lists_touch_reached_contexts_lem : TouchedContextsAreReached → ListsTouchReachedContexts
lists_touch_reached_contexts_lem one from to _ j none lt = inl (j, stays_itself from j lt)
lists_touch_reached_contexts_lem one from to _ j (then edits mid edit _ led is) lt = elim (after_one one mid edit to is j lt) [
  | inl kept ↦ elim (lists_touch_reached_contexts_lem one from mid edits kept.0 led kept.1.within) [
    | inl was ↦ inl (was.0, stays_on from mid to was.0 kept.0 j was.1 kept.1)
    | inr way ↦ inr (further from mid edits edit to kept.0 j is kept.1 way)
  ]
  | inr reached ↦ inr (record {
    first = edits;
    edit = edit;
    rest = [];
    edits_are = refl;
    before = mid;
    next = to;
    led = led;
    edited = is;
    leads = none;
    i = j;
    stays = stays_itself to j lt;
    reached = reached;
  })
]
