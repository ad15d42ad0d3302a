-- Contexts of two documents that are the same for the task of a cell. What a cell is given comes of its context itself and of what the
-- cells keep that it depends on: for preferred widths of the contexts inside (CSS 2.2, 10.3.5), for sizes of the one around (10.1), and for
-- places of the contexts inside again. Contexts are known by numbers in each document, and an edit moves these: so none is in what is said
-- here to be the same.
use Rattle.std.specs.Prelude.{ℕ, ◌≡◌, ◌<◌, ◌↔◌, Bool, true, false, List, length, slice_index, Some}
use Rattle.lay_style.specs.declared.style.Style.{Style}
use Rattle.lay_doc.specs.Document.{Document, IsDocument}
use Rattle.lay_boxgen.specs.Forms.{is_absolute}
use Rattle.lay_contexts.specs.Contexts.{Context, boxes_in, context_at}
use Rattle.lay_contexts.specs.ContextList.{AreContextsOf}
use Rattle.lay_contexts.specs.FlowLaws.{flow_at, is_anchor_at}
use Rattle.lay_contexts.specs.FormattingContexts.{FormattingContext}
use Rattle.lay_contexts.specs.FormattingContextList.{AreFormattingContextsOf, first_number}
use Rattle.lay_positioned.specs.Absolute.{is_own_fixed}
use Rattle.lay_positioned.specs.Holders.{IsHolderFor}
use Rattle.lay_context.specs.declared.task.Phase.{Phase}
use Rattle.lay_context.specs.declared.task.Phase.TheVariants as phase
use Rattle.lay_context.specs.Measured.{is_measured}
use Rattle.lay_context.specs.Medium.{Medium}
use Rattle.lay_context.specs.Workings.{Workings}
use Rattle.lay_cell_work.specs.CellInputs.{CellInput}
use Rattle.lay_cell_work.specs.CellValues.{CellValue}
use Rattle.lay_cell_work.specs.KeptValues.{workings_of}
use Rattle.lay_cell_work.specs.PresentInputs.{key_of, present_input}

-- contexts with their formatting contexts, and what the cell of each keeps for a phase
pub record Table : Type 0 where
  pub contexts : List Context
  pub formatting_contexts : List FormattingContext
  pub kept : ℕ → Phase → CellValue

abbrev pub workings_in : Table → Workings
workings_in t = workings_of t.contexts t.kept

-- what a cell is given there
abbrev pub input_in : Medium → Table → (c : ℕ) → Phase → CellInput
input_in medium t c phase = present_input medium t.contexts t.formatting_contexts (workings_in t) c phase

-- they are those of a document
pub record IsTable (t : Table) : Type 0 where
  pub document : Document
  pub styles : List Style
  pub is_document : IsDocument document
  pub counted : length styles ≡ length document.nodes
  pub are_contexts : AreContextsOf document.nodes styles t.contexts
  pub are_formatting_contexts : AreFormattingContextsOf t.contexts t.formatting_contexts

-- the context c of one has the boxes of the context e of another; both are their document's first one, or neither is
pub record IsSameContext (a b : Table) (c e : ℕ) : Type 0 where
  pub within : c < length a.contexts
  pub there : e < length b.contexts
  pub root : (c ≡ 0) ↔ (e ≡ 0)
  pub boxes : boxes_in a.contexts c ≡ boxes_in b.contexts e

-- the number of the context inside whose box the one at k is, and 0 where it is none's
abbrev pub inner_number_at : Table → (c k : ℕ) → ℕ
inner_number_at t c k = slice_index (context_at t.contexts c).inner k

-- The cells of the contexts inside that are in flow or float keep the same for a phase, box by box. What an anchor stands for gives
-- nothing (9.6).
abbrev pub AreSameInside : (a b : Table) (c e : ℕ) → Phase → Type 0
AreSameInside a b c e phase = (k : ℕ) → k < length (boxes_in a.contexts c) → 0 < inner_number_at a c k
    → is_anchor_at (boxes_in a.contexts c) k ≡ false → a.kept (inner_number_at a c k) phase ≡ b.kept (inner_number_at b e k) phase

-- to be measured
pub record IsSameToMeasure (a b : Table) (c e : ℕ) : Type 0 where
  pub own : IsSameContext a b c e
  pub measured : is_measured a.formatting_contexts (first_number a.contexts c)
      ≡ is_measured b.formatting_contexts (first_number b.contexts e)
  pub inside : AreSameInside a b c e phase.Measure

-- the context around has the same boxes, and its cell keeps the same sizes
pub record IsSameAround (a b : Table) (c e : ℕ) : Type 0 where
  pub around : IsSameContext a b (context_at a.contexts c).outer (context_at b.contexts e).outer
  pub sizes : a.kept (context_at a.contexts c).outer phase.Size ≡ b.kept (context_at b.contexts e).outer phase.Size

-- the contexts c and e are laid out the same: their cells keep the same sizes and places
pub record IsLaidSame (a b : Table) (c e : ℕ) : Type 0 where
  pub own : IsSameContext a b c e
  pub sizes : a.kept c phase.Size ≡ b.kept e phase.Size
  pub places : a.kept c phase.Place ≡ b.kept e phase.Place

-- and so are those on the way from the box at k in the context c out to its containing block (10.1): to the nearest box that can be one,
-- or to the viewport
pub data IsSameWay (is_fixed : Bool) (a b : Table) : (c e k : ℕ) → Type 0 where
  held : (c e k holder : ℕ) → IsLaidSame a b c e → IsHolderFor is_fixed (boxes_in a.contexts c) k (Some holder)
      → IsSameWay is_fixed a b c e k
  further : (c e k : ℕ) → 0 < c → IsLaidSame a b c e
      → IsSameWay is_fixed a b (context_at a.contexts c).outer (context_at b.contexts e).outer (context_at a.contexts c).outer_box
      → IsSameWay is_fixed a b c e k
  initial : (k : ℕ) → IsLaidSame a b 0 0 → IsSameWay is_fixed a b 0 0 k

-- and those on the way out from the anchor of an absolutely positioned context
abbrev pub IsSameOut : (a b : Table) (c e : ℕ) → Type 0
IsSameOut a b c e =
    let own : Context = context_at a.contexts c in
    IsSameWay (is_own_fixed own.boxes) a b own.outer (context_at b.contexts e).outer own.outer_box

-- the context is absolutely positioned (9.6)
abbrev pub is_context_out_of_flow : Table → ℕ → Bool
is_context_out_of_flow t c = is_absolute (flow_at (boxes_in t.contexts c) 0)

-- to be sized
pub record IsSameToSize (a b : Table) (c e : ℕ) : Type 0 where
  pub own : IsSameContext a b c e
  pub widths : a.kept c phase.Measure ≡ b.kept e phase.Measure
  pub around : 0 < c → is_context_out_of_flow a c ≡ false → IsSameAround a b c e
  pub out : 0 < c → is_context_out_of_flow a c ≡ true → IsSameOut a b c e

-- to be placed
pub record IsSameToPlace (a b : Table) (c e : ℕ) : Type 0 where
  pub own : IsSameContext a b c e
  pub sizes : a.kept c phase.Size ≡ b.kept e phase.Size
  pub inside : AreSameInside a b c e phase.Place
  pub out : 0 < c → is_context_out_of_flow a c ≡ true → IsSameOut a b c e

-- Where a context is the same for a task, and what its cell depends on is kept, the cell is given what it was.
abbrev pub MeasureInputsAreKept : Type 0
MeasureInputsAreKept = (medium : Medium) (a b : Table) (c e : ℕ) → IsTable a → IsTable b → IsSameToMeasure a b c e
    → input_in medium a c phase.Measure ≡ input_in medium b e phase.Measure

abbrev pub SizeInputsAreKept : Type 0
SizeInputsAreKept = (medium : Medium) (a b : Table) (c e : ℕ) → IsTable a → IsTable b → IsSameToSize a b c e
    → input_in medium a c phase.Size ≡ input_in medium b e phase.Size

abbrev pub PlaceInputsAreKept : Type 0
PlaceInputsAreKept = (medium : Medium) (a b : Table) (c e : ℕ) → IsTable a → IsTable b → IsSameToPlace a b c e
    → input_in medium a c phase.Place ≡ input_in medium b e phase.Place

-- What stands inside at the same box is of one node, so its cells are known by the same keys.
abbrev pub CounterpartsAreOfOneNode : Type 0
CounterpartsAreOfOneNode = (a b : Table) (c e k : ℕ) (phase : Phase) → IsTable a → IsTable b → IsSameContext a b c e
    → k < length (boxes_in a.contexts c) → 0 < inner_number_at a c k
    → key_of a.contexts (inner_number_at a c k) phase ≡ key_of b.contexts (inner_number_at b e k) phase
