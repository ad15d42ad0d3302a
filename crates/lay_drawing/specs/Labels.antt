-- The labels of a picture: the numbers of the nodes of boxes, each at the upper left corner of its box. A label is 6 px wide a
-- digit and 6 px more, and 13 px high, which holds digits of 10 px in a monospaced font.
-- Boxes are labelled in the order of the pieces. Where a label is in the way of the next one, that stands behind it, so those of boxes
-- with one corner stand side by side. A box has no label where it has no room for it there, where its number stands at that
-- corner already, or where a label is still in the way. So no two labels overlap.
use Rattle.std.specs.Prelude.{ℕ, ◌≡◌, ◌+◌, ◌*◌, ◌&&◌, ◌==◌, Bool, not, ℤ, pos, ◌+ℤ◌, ◌-ℤ◌, ◌≤ℤ◌, ◌<ℤ◌, List, []}
use Rattle.std.specs.Prelude.{◌∷◌, ◌++◌, length, fold, Option, Some, None, int_le, int_lt, if◌then◌else◌, true}
use Rattle.std.specs.List.{All, AllPairs, Any, list_any}
use Rattle.std.specs.Ordering.{int_eq}
use Rattle.std.specs.Fmt.{decimal}
use Rattle.lay_drawing.specs.declared.frame.Frame.{Frame}
use Rattle.lay_drawing.specs.declared.frame.Span.{Span}
use Rattle.lay_drawing.specs.declared.label.Label.{Label}
use Rattle.lay_drawing.specs.declared.mark.Marked.{Marked}
use Rattle.lay_drawing.specs.Changes.{is_box}
use Rattle.lay_drawing.specs.Frames.{edges, IsWithin}
use Rattle.lay_drawing.specs.Reading.{◌>>=◌}

abbrev pub label_width : ℕ → ℤ
label_width node = pos (384 * length (decimal node) + 384)

abbrev pub label_height : ℤ
label_height = pos 832

-- the label is one of the boxes with this upper left corner
abbrev pub is_label_at : ℤ → ℤ → Label → Bool
is_label_at left top label = int_eq label.corner left && int_eq label.frame.down.low top

-- a size from an edge reaches into a span
abbrev pub meets : ℤ → ℤ → Span → Bool
meets from size span = int_lt from span.high && not (int_le size (span.low -ℤ from))

-- a label is in the way of one that begins there
abbrev pub is_in_way : ℤ → ℤ → ℤ → Label → Bool
is_in_way left top width label = meets left width label.frame.across && meets top label_height label.frame.down

abbrev pub behind : ℤ → ℤ → ℤ → Label → ℤ
behind top width left label = if is_in_way left top width label then label.frame.across.high else left

-- where a label begins: at the corner, or behind those that are in its way from there on
abbrev pub begin_at : ℤ → ℤ → ℤ → List Label → ℤ
begin_at left top width labels = fold (behind top width) left labels

-- the number stands at this corner
abbrev pub is_told : ℤ → ℤ → ℕ → List Label → Bool
is_told left top node labels = list_any (λ label. is_label_at left top label && label.node == node) labels

-- two spans have a point in common
abbrev pub crosses : Span → Span → Bool
crosses a b = int_lt a.low b.high && int_lt b.low a.high

abbrev pub overlaps : Frame → Label → Bool
overlaps frame label = crosses frame.across label.frame.across && crosses frame.down label.frame.down

abbrev pub is_free : List Label → Frame → Bool
is_free labels frame = not (list_any (overlaps frame) labels)

-- the span of a size from an edge, if it ends at most at the other one
abbrev pub span_up_to : ℤ → ℤ → ℤ → Option Span
span_up_to from size most = if int_le size (most -ℤ from) then Some (record { low = from; high = from +ℤ size }) else None

-- the place of a number at the corner of a box, behind the labels in its way, if the box has room for it
abbrev pub place_in : List Label → ℕ → Frame → Option Frame
place_in labels node box = do
  across ← span_up_to (begin_at box.across.low box.down.low (label_width node) labels) (label_width node) box.across.high
  down ← span_up_to box.down.low label_height box.down.high
  Some (record { across = across; down = down })

-- the label in this place, if the number isn't told at the corner and no label is in the way
abbrev pub label_at : List Label → Marked → ℤ → Frame → Option Label
label_at labels m corner frame =
    if is_told corner frame.down.low m.piece.node.0 labels then None
    else (if is_free labels frame then Some (record { node = m.piece.node.0; mark = m.mark; corner = corner; frame = frame }) else None)

abbrev pub label_in : List Label → Marked → Frame → Option Label
label_in labels m box = do
  frame ← place_in labels m.piece.node.0 box
  label_at labels m box.across.low frame

-- the label of a box, after these
abbrev pub label_for : List Label → Marked → Option Label
label_for labels m = if is_box m.piece.kind then label_in labels m (edges m.piece) else None

abbrev pub with_label : List Label → Option Label → List Label
with_label labels None = labels
with_label labels (Some label) = labels ++ label ∷ []

abbrev pub labels_of : List Marked → List Label
labels_of pieces = fold (λ labels m. with_label labels (label_for labels m)) [] pieces

-- a point of the page is in a frame
abbrev pub HasPoint : Frame → ℤ → ℤ → Type 0
HasPoint frame x y = (frame.across.low ≤ℤ x) × (x <ℤ frame.across.high) × (frame.down.low ≤ℤ y) × (y <ℤ frame.down.high)

abbrev pub AreApart : Label → Label → Type 0
AreApart a b = (x y : ℤ) → HasPoint a.frame x y → HasPoint b.frame x y → ⊥

-- no point of the page is in two labels
abbrev pub LabelsAreApart : Type 0
LabelsAreApart = (pieces : List Marked) → AllPairs AreApart (labels_of pieces)

-- the label is one of this box: it has the number of its node, says the same of it, and stands in it
abbrev pub IsOf : Label → Marked → Type 0
IsOf label m =
    (is_box m.piece.kind ≡ true) × (label.node ≡ m.piece.node.0) × (label.mark ≡ m.mark)
    × IsWithin label.frame.across (edges m.piece).across × IsWithin label.frame.down (edges m.piece).down

-- each label is one of a box
abbrev pub LabelsAreInBoxes : Type 0
LabelsAreInBoxes = (pieces : List Marked) → All (λ label. Any (IsOf label) pieces) (labels_of pieces)
