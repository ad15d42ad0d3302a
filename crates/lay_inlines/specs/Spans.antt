-- From where to where the inline boxes, the atomic boxes and the texts of a line reach on it (CSS 2.2, 9.4.2 and 8.6), and
-- how far they are raised. An inline box begins after its left margin where its start is on the line, and where the
-- line's content begins otherwise; it ends before its right margin where its end is on the line, and where the content
-- ends otherwise. An atomic box reaches from margin to margin. A text reaches over its parts that stay on the line, and
-- has none where no part does.
use Rattle.std.specs.Prelude.{ℕ, ◌==◌, ℤ, pos, ◌+ℤ◌, ◌-ℤ◌, Bool, true, false, ◌&&◌}
use Rattle.std.specs.Prelude.{if◌then◌else◌, List, [], ◌∷◌, length, drop, slice_index_or}
use Rattle.lay_units.specs.declared.length.Unit.{Unit}
use Rattle.lay_lines.specs.declared.content.content.InlineArea.{InlineArea}
use Rattle.lay_inlines.specs.declared.line_piece.LinePieceKind.{LinePieceKind}
use Rattle.lay_inlines.specs.declared.line_piece.LinePieceKind.TheVariants.{Line, Inline, Text, Atomic}
use Rattle.lay_inlines.specs.declared.spans.Span.{Span}
use Rattle.lay_inlines.specs.declared.strokes.Stroke.{Stroke}
use Rattle.lay_inlines.specs.declared.strokes.Shown.{Shown}
use Rattle.lay_inlines.specs.declared.strokes.Shown.TheVariants.{OfText, OfAtomic, Opens, Closes, Nothing}
use Rattle.lay_inlines.specs.Raises.{raise_at}
use Rattle.lay_inlines.specs.Strokes.{has_content, begin_of, end_of, stays, shown_of}

abbrev pub unit : ℤ → Unit
unit v = record { 0 = v }

abbrev pub no_area : InlineArea
no_area = record { above = unit (pos 0); below = unit (pos 0); margin_left = unit (pos 0); margin_right = unit (pos 0) }

-- that of the box of this number
abbrev pub area_at : List InlineArea → ℕ → InlineArea
area_at areas n = slice_index_or areas n no_area

abbrev pub span_of : LinePieceKind → ℕ → Unit → ℤ → ℤ → Span
span_of kind n raise from to = record { kind = kind; node = n; raise = raise; from = unit from; to = unit to }

-- the right edges before a part: the box that begins with it isn't open there, and the one that ends with it is
abbrev pub edges_before : List InlineArea → Shown → ℤ → List Unit → List Unit
edges_before areas (OfText t) to edges = edges
edges_before areas (OfAtomic n) to edges = edges
edges_before areas (Opens n) to edges = drop 1 edges
edges_before areas (Closes n) to edges = unit (to -ℤ (area_at areas n).margin_right.0) ∷ edges
edges_before areas Nothing to edges = edges

abbrev pub shown_before : Stroke → List Stroke → Shown
shown_before s ss = shown_of s.part (stays s (has_content ss))

-- where the inline boxes end that are open before these parts, as far as they end among them, innermost first
abbrev pub ended_right_edges : List InlineArea → List Stroke → List Unit
ended_right_edges areas [] = []
ended_right_edges areas (s ∷ ss) = edges_before areas (shown_before s ss) (end_of s (has_content ss)) (ended_right_edges areas ss)

-- that of the box which this many open ones are in: the end of the line's content, where its own end isn't on the line
abbrev pub edge_at : List Unit → ℕ → ℤ → ℤ
edge_at edges n end = (slice_index_or edges n (unit end)).0

abbrev pub is_text : LinePieceKind → Bool
is_text Line = false
is_text Inline = false
is_text Text = true
is_text Atomic = false

-- a bit of a text before these, of which the first is what is left of the text on its line
abbrev pub with_text_span : ℕ → Unit → ℤ → ℤ → List Span → List Span
with_text_span t raise from to [] = span_of Text t raise from to ∷ []
with_text_span t raise from to (s ∷ ss) =
    if is_text s.kind && (s.node == t) then span_of Text t raise from s.to.0 ∷ ss
    else span_of Text t raise from to ∷ s ∷ ss

abbrev pub inline_span : List InlineArea → ℕ → Unit → ℤ → ℤ → Span
inline_span areas n raise from to = span_of Inline n raise (from +ℤ (area_at areas n).margin_left.0) to

-- the border box between these margin edges
abbrev pub atomic_span : List InlineArea → ℕ → Unit → ℤ → ℤ → Span
atomic_span areas n raise from to =
    span_of Atomic n raise (from +ℤ (area_at areas n).margin_left.0) (to -ℤ (area_at areas n).margin_right.0)

-- what a part shows, before the spans of the parts behind it
abbrev pub with_shown : List InlineArea → Shown → Unit → ℤ → ℤ → ℤ → List Span → List Span
with_shown areas (OfText t) raise from to edge spans = with_text_span t raise from to spans
with_shown areas (OfAtomic n) raise from to edge spans = atomic_span areas n raise from to ∷ spans
with_shown areas (Opens n) raise from to edge spans = inline_span areas n raise from edge ∷ spans
with_shown areas (Closes n) raise from to edge spans = spans
with_shown areas Nothing raise from to edge spans = spans

-- the boxes and texts that begin among these parts, in document order
abbrev pub spans_of : List InlineArea → ℤ → List Stroke → List Span
spans_of areas end [] = []
spans_of areas end (s ∷ ss) =
    with_shown areas (shown_before s ss) s.raise (begin_of s (has_content ss)) (end_of s (has_content ss))
    (edge_at (ended_right_edges areas ss) 0 end)
    (spans_of areas end ss)

-- the boxes that are open where the line's content begins, outermost first, and how far they are raised
abbrev pub open_spans : ℤ → ℤ → List Unit → List Unit → List ℕ → List Span
open_spans start end edges raises [] = []
open_spans start end edges raises (n ∷ ns) =
    span_of Inline n (raise_at raises 0) start (edge_at edges (length ns) end) ∷ open_spans start end edges (drop 1 raises) ns
