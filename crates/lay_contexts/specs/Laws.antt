-- What holds of the contexts of a document.
use Rattle.std.specs.Prelude.{ℕ, ◌≡◌, ◌<◌, true, List, length, slice_index}
use Rattle.lay_style.specs.declared.style.Style.{Style}
use Rattle.lay_doc.specs.Document.{Document, IsDocument}
use Rattle.lay_boxgen.specs.Forms.{is_absolute}
use Rattle.lay_box_tree.specs.declared.box_tree.Flow.TheVariants.{InFlow}
use Rattle.lay_contexts.specs.FlowLaws.{flow_at, is_anchor_at}
use Rattle.lay_box_tree.specs.Containing.{is_anonymous}
use Rattle.lay_box_tree.specs.ContextBoxes.{is_inner}
use Rattle.lay_contexts.specs.Contexts.{Context, boxes_in, context_at}
use Rattle.lay_contexts.specs.ContextList.{AreContextsOf}

-- A document has one list of contexts with their boxes.
abbrev pub OneContextList : Type 0
OneContextList = (d : Document) (styles : List Style) (x y : List Context) → IsDocument d → length styles ≡ length d.nodes
    → AreContextsOf d.nodes styles x → AreContextsOf d.nodes styles y → x ≡ y

-- in the one around it, the box of the context with the number j is marked as that of an inner context, and has this number
pub record IsNotedAround (contexts : List Context) (j : ℕ) : Type 0 where
  pub number : slice_index (context_at contexts (context_at contexts j).outer).inner (context_at contexts j).outer_box ≡ j
  pub inner : is_inner (boxes_in contexts (context_at contexts j).outer) (context_at contexts j).outer_box ≡ true

-- Each context but the root's is noted in the one around it.
abbrev pub ContextsAreNotedAround : Type 0
ContextsAreNotedAround = (d : Document) (styles : List Style) (contexts : List Context) (j : ℕ)
    → IsDocument d → length styles ≡ length d.nodes
    → AreContextsOf d.nodes styles contexts → 0 < j → j < length contexts → IsNotedAround contexts j

-- in the one around it, what stands for the box of the context with the number j is in the flow of that box, and is an anchor
-- just where that is absolutely positioned
pub record KeepsFlowAround (contexts : List Context) (j : ℕ) : Type 0 where
  pub flow : flow_at (boxes_in contexts (context_at contexts j).outer) (context_at contexts j).outer_box ≡ flow_at (boxes_in contexts j) 0
  pub anchor : is_anchor_at (boxes_in contexts (context_at contexts j).outer) (context_at contexts j).outer_box
      ≡ is_absolute (flow_at (boxes_in contexts j) 0)

-- For each context but the root's the one around it has that.
abbrev pub ContextsKeepFlowAround : Type 0
ContextsKeepFlowAround = (d : Document) (styles : List Style) (contexts : List Context) (j : ℕ)
    → IsDocument d → length styles ≡ length d.nodes
    → AreContextsOf d.nodes styles contexts → 0 < j → j < length contexts → KeepsFlowAround contexts j

-- Anonymous boxes are in flow.
abbrev pub AnonymousBoxesAreInFlow : Type 0
AnonymousBoxesAreInFlow = (d : Document) (styles : List Style) (contexts : List Context) (i k : ℕ)
    → IsDocument d → length styles ≡ length d.nodes
    → AreContextsOf d.nodes styles contexts → i < length contexts → is_anonymous (boxes_in contexts i) k ≡ true
    → flow_at (boxes_in contexts i) k ≡ InFlow
