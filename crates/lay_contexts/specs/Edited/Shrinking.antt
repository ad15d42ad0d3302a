-- What the own box of a formatting context or one around it may be (CSS 2.2, 9.4.1 and 10.3.5), as whether it may shrink to fit its
-- content: preferred widths count where one of these boxes does. For the context of an element it is said by the element, the elements
-- of the contexts around, and the nodes between, where an anonymous table is.
use Rattle.std.specs.Prelude.{ℕ, ◌≡◌, ◌<◌, ◌↔◌, Bool, true, false, List, length, slice_index, Some}
use Rattle.lay_style.specs.declared.style.Style.{Style}
use Rattle.lay_style.specs.declared.style_words.TableLayout.TheVariants.{Auto}
use Rattle.lay_style.specs.ComputedStyle.{style_at}
use Rattle.lay_doc.specs.declared.edit.Edit.{Edit}
use Rattle.lay_doc.specs.declared.node.Node.{Node}
use Rattle.lay_doc.specs.Document.{Document, IsDocument, ids_of}
use Rattle.lay_doc.specs.Edits.{after}
use Rattle.lay_boxgen.specs.declared.facts.Facts.{Facts}
use Rattle.lay_box_tree.specs.declared.box_tree.BoxKind.{BoxKind}
use Rattle.lay_box_tree.specs.declared.box_tree.BoxKind.TheVariants.{Cell, InlineWrapper, Wrapper}
use Rattle.lay_box_tree.specs.declared.box_tree.Flow.{Flow}
use Rattle.lay_box_tree.specs.declared.box_tree.Flow.TheVariants.{InFlow}
use Rattle.lay_box_tree.specs.BoxColumns.{box_at as box_in_list}
use Rattle.lay_boxgen.specs.Contexts.{box_at}
use Rattle.lay_boxgen.specs.Listing.{kind_of, text_at}
use Rattle.lay_contexts.specs.ContextList.{AreContextsOf}
use Rattle.lay_contexts.specs.Contexts.{Context, boxes_in as boxes_of_context, context_at}
use Rattle.lay_contexts.specs.ContextTree.{IsAround}
use Rattle.lay_contexts.specs.FormattingContextList.{AreFormattingContextsOf, number_of}
use Rattle.lay_contexts.specs.FormattingContexts.{FormattingContext, boxes_in, formatting_context_at}
use Rattle.lay_contexts.specs.Homes.{is_root}
use Rattle.lay_contexts.specs.Edited.AnonymousTables.{IsInStrayPart}
use Rattle.lay_contexts.specs.Edited.Reached.{IsReached}
use Rattle.lay_contexts.specs.Edited.Touched.{Edits}
use Rattle.lay_contexts.specs.Edited.Unreached.{IsKeptAt}

-- of the context of the node at k: its own box is such a one, or it stands in an anonymous table in the context around, or a box around
-- that context is such a one
pub data IsWithin (S : Flow → BoxKind → Style → Bool) (nodes : List Node) (styles : List Style) : ℕ → Type 0 where
  own : (k : ℕ) (f : Facts) → box_at nodes styles k ≡ Some f → S f.flow (kind_of (text_at nodes k) f.form) (style_at styles k) ≡ true
      → IsWithin S nodes styles k
  table : (k : ℕ) → IsInStrayPart nodes styles k → IsWithin S nodes styles k
  around : (k a : ℕ) → IsAround nodes styles k a → IsWithin S nodes styles a → IsWithin S nodes styles k

-- the own box of the formatting context with the number j is such a one, or that of one around it
pub data IsWithinOutward (S : Flow → BoxKind → Style → Bool) (all : List FormattingContext) : ℕ → Type 0 where
  first : (j : ℕ)
      → S (box_in_list (boxes_in all j) 0).flow (box_in_list (boxes_in all j) 0).kind (box_in_list (boxes_in all j) 0).style ≡ true
      → IsWithinOutward S all j
  outward : (j : ℕ) → 0 < j → IsWithinOutward S all (formatting_context_at all j).outer → IsWithinOutward S all j

-- each anonymous table is such a one, since `table-layout` is not inherited (17.5.2), and no anonymous cell
pub record TakesAnonymousTables (S : Flow → BoxKind → Style → Bool) : Type 0 where
  pub wrapper : (s : Style) → s.table.layout ≡ Auto → S InFlow Wrapper s ≡ true
  pub inline_wrapper : (s : Style) → s.table.layout ≡ Auto → S InFlow InlineWrapper s ≡ true
  pub cell : (colspan rowspan : ℕ) (s : Style) → S InFlow (Cell colspan rowspan) s ≡ false

-- these are the contexts of a document, and its formatting contexts
pub record AreListsOf (d : Document) (styles : List Style) (contexts : List Context) (all : List FormattingContext) : Type 0 where
  pub document : IsDocument d
  pub count : length styles ≡ length d.nodes
  pub contexts_are : AreContextsOf d.nodes styles contexts
  pub all_are : AreFormattingContextsOf contexts all

-- For the formatting contexts of elements the two say the same.
abbrev pub WithinOutwardByNodes : Type 0
WithinOutwardByNodes = (S : Flow → BoxKind → Style → Bool) (d : Document) (styles : List Style) (contexts : List Context)
    (all : List FormattingContext) → TakesAnonymousTables S → AreListsOf d styles contexts all → (i : ℕ) → i < length contexts
    → IsWithinOutward S all (number_of contexts i 0) ↔ IsWithin S d.nodes styles (context_at contexts i).place

-- For those of anonymous tables and cells it is said by the boxes of the context that they are in, and by the context itself: two contexts
-- with the same boxes, of one document or of two, say the same of all their roots where they do so of themselves.
abbrev pub RootsFollowTheirContext : Type 0
RootsFollowTheirContext = (S : Flow → BoxKind → Style → Bool) (d e : Document) (styles others : List Style)
    (contexts later : List Context) (all rest : List FormattingContext)
    → AreListsOf d styles contexts all → AreListsOf e others later rest
    → (i j : ℕ) → i < length contexts → j < length later → boxes_of_context contexts i ≡ boxes_of_context later j
    → (IsWithinOutward S all (number_of contexts i 0) → IsWithinOutward S rest (number_of later j 0))
    → (r : ℕ) → r < length (boxes_of_context contexts i) → is_root (boxes_of_context contexts i) r ≡ true
    → IsWithinOutward S all (number_of contexts i r) → IsWithinOutward S rest (number_of later j r)

-- An edit changes that only for contexts of elements that it reaches: by the nodes,
abbrev pub UnreachedContextsStayWithin : Type 0
UnreachedContextsStayWithin = (d : Document) (edit : Edit) (styles others : List Style) → Edits d edit styles others
    → (S : Flow → BoxKind → Style → Bool) (k : ℕ) → k < length d.nodes → (IsReached d edit k → ⊥)
    → (m : ℕ) × IsKeptAt d (after d edit) styles others k m × (IsWithin S d.nodes styles k ↔ IsWithin S (after d edit).nodes others m)

-- the context with the number j after an edit is that with the number i before it, and says the same of the boxes around
pub record StaysOutward (S : Flow → BoxKind → Style → Bool) (d e : Document) (contexts later : List Context)
    (all rest : List FormattingContext)
    (i j : ℕ) : Type 0 where
  pub within : j < length later
  pub node : slice_index (ids_of e.nodes) (context_at later j).place ≡ slice_index (ids_of d.nodes) (context_at contexts i).place
  pub same : IsWithinOutward S all (number_of contexts i 0) ↔ IsWithinOutward S rest (number_of later j 0)

-- and by the formatting contexts.
abbrev pub UnreachedContextsStayOutward : Type 0
UnreachedContextsStayOutward = (S : Flow → BoxKind → Style → Bool) (d : Document) (edit : Edit) (styles others : List Style)
    (contexts later : List Context) (all rest : List FormattingContext)
    → TakesAnonymousTables S → Edits d edit styles others → AreListsOf d styles contexts all → AreListsOf (after d edit) others later rest
    → (i : ℕ) → i < length contexts → (IsReached d edit (context_at contexts i).place → ⊥)
    → (j : ℕ) × StaysOutward S d (after d edit) contexts later all rest i j
