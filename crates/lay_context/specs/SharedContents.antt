-- The content of lines that the tasks of a layout share: of each formatting context what more than one task asks for. Where a
-- formatting context is measured, both its preferred widths and its lines are of the content of its lines. Where an anchor stands
-- in lines, its line is looked up beside them.
use Rattle.std.specs.Prelude.{ℕ, ◌≡◌, ◌<◌, true, List, [], Some, length, slice_index_or, if◌then◌else◌}
use Rattle.lay_box_tree.specs.declared.box_tree.BoxNode.{BoxNode}
use Rattle.lay_face.specs.FaceValue.{FaceValue}
use Rattle.lay_line_items.specs.InlineContents.{AreContents, KeptSegments, kept_at}
use Rattle.lay_line_items.specs.InlineSegments.{segments_in}
use Rattle.lay_flow_boxes.specs.AskedContents.{AreAskedContents, HoldsAsked, is_any_asked}
use Rattle.lay_flow_boxes.specs.declared.asked_contents.Asked.{Asked}
use Rattle.lay_flow_boxes.specs.declared.asked_contents.Asked.TheVariants.{Texts as texts, Anchors as anchors, Nothing as nothing}
use Rattle.lay_contexts.specs.FormattingContexts.{FormattingContext, boxes_in}
use Rattle.lay_context.specs.Measured.{is_measured}

-- that of the formatting context with this number
abbrev pub contents_in : List KeptSegments → ℕ → KeptSegments
contents_in contents i = slice_index_or contents i []

-- for which of these boxes a placement asks more than once: where a text stands in its lines, for those with an anchor
abbrev pub asked_by_placement : List BoxNode → Asked
asked_by_placement boxes = if is_any_asked texts boxes then anchors else nothing

-- for which boxes of the formatting context with this number more than one task asks, where a text stands in its lines
abbrev pub asked_in : List FormattingContext → ℕ → Asked
asked_in contexts i = if is_any_asked texts (boxes_in contexts i) then (if is_measured contexts i then texts else anchors) else nothing

-- it is the content of the lines that have such boxes, in this face, and no other
pub record AreContentsShared (face : FaceValue) (contexts : List FormattingContext) (contents : List KeptSegments) : Type 0 where
  pub count : length contents ≡ length contexts
  pub each : (i : ℕ) → i < length contexts → AreAskedContents (asked_in contexts i) face (boxes_in contexts i) (contents_in contents i)

-- Where the formatting context with the number i is measured, this has the content of all its lines with a text: so no text is
-- clustered once for widths and once more for lines.
abbrev pub TextsAreKept : FaceValue → List FormattingContext → ℕ → KeptSegments → Type 0
TextsAreKept face contexts i kept =
    is_measured contexts i ≡ true → (k : ℕ) → HoldsAsked texts (boxes_in contexts i) k
    → kept_at kept k ≡ Some (segments_in face (boxes_in contexts i) k)

-- it is the content of their boxes, in this face, and of texts that are measured all of it
pub record HaveContents (face : FaceValue) (contexts : List FormattingContext) (contents : List KeptSegments) : Type 0 where
  pub count : length contents ≡ length contexts
  pub each : (i : ℕ) → i < length contexts → AreContents face (boxes_in contexts i) (contents_in contents i)
  pub texts : (i : ℕ) → i < length contexts → TextsAreKept face contexts i (contents_in contents i)
