-- Each atomic box has one piece.
use Rattle.std.proofs.Common.{◌≡◌, ◌∙◌, ℕ, ◌==◌, ◌&&◌, ℤ, Bool, true, false, if◌then◌else◌, List, [], ◌∷◌, ◌++◌, length, drop, map, refl, ap}
use Rattle.lay_units.specs.declared.length.Unit.{Unit}
use Rattle.lay_lines.specs.declared.content.content.InlineArea.{InlineArea}
use Rattle.lay_lines.specs.declared.content.content.Part.{Part}
use Rattle.lay_lines.specs.declared.content.content.Part.TheVariants.{Space, PreservedSpace, Tab, Linefeed, Text, Start, End, Atomic}
use Rattle.lay_lines.specs.declared.content.frame.Frame.{Frame}
use Rattle.lay_lines.specs.declared.content.pen.Pen.{Pen}
use Rattle.lay_lines.specs.Content.Pens.{over, start_of}
use Rattle.lay_inlines.specs.declared.line_piece.LinePieceKind.{LinePieceKind}
use Rattle.lay_inlines.specs.declared.line_piece.LinePieceKind.TheVariants as on_line
use Rattle.lay_inlines.specs.declared.spans.Span.{Span}
use Rattle.lay_inlines.specs.AtomicBoxes.{atomic_box, atomic_boxes, atomic_pieces, is_atomic}
use Rattle.lay_inlines.specs.Laws.{EachAtomicBoxHasOnePiece}
use Rattle.lay_inlines.specs.LinePieces.{piece_of, baseline_of, origin_of, blank_of, content_end, line_spans, line_strokes}
use Rattle.lay_inlines.specs.Raises.{RaisesValue, raise_of, raises_after, raises_of, behind_strut}
use Rattle.lay_inlines.specs.Spans.{edge_at, is_text, open_spans, ended_right_edges, span_of, spans_of, with_shown, with_text_span}
use Rattle.lay_inlines.specs.Strokes.{begin_of, end_of, has_content, shown_of, stays, stroke_of, strokes}

abbrev atomic_spans : List Span → List ℕ
atomic_spans [] = []
atomic_spans (s ∷ ss) = if is_atomic s.kind then s.node ∷ atomic_spans ss else atomic_spans ss

pieces_of_spans : (areas : List InlineArea) (origin baseline : ℤ) (ss : List Span) → atomic_pieces (map (piece_of areas origin baseline) ss) ≡ atomic_spans ss
pieces_of_spans areas origin baseline [] = refl
pieces_of_spans areas origin baseline (s ∷ ss) =
    ap (λ (ns : List ℕ). if is_atomic s.kind then s.node ∷ ns else ns) (pieces_of_spans areas origin baseline ss)

-- boxes that are open from the line's start aren't atomic
behind_open : (start end : ℤ) (edges raises : List Unit) (ns : List ℕ) (ss : List Span) → atomic_spans (open_spans start end edges raises ns ++ ss) ≡ atomic_spans ss
behind_open start end edges raises [] ss = refl
behind_open start end edges raises (n ∷ ns) ss = behind_open start end edges (drop 1 raises) ns ss

-- a bit of a text neither hides nor shows an atomic box
beside_text : (t n : ℕ) (raise r f u : Unit) (from to : ℤ) (kind : LinePieceKind) (same : Bool) (ss : List Span)
    → atomic_spans (if is_text kind && same then span_of on_line.Text t raise from u.0 ∷ ss
    else span_of on_line.Text t raise from to ∷ record { kind = kind; node = n; raise = r; from = f; to = u } ∷ ss)
    ≡ atomic_spans (record { kind = kind; node = n; raise = r; from = f; to = u } ∷ ss)
beside_text t n raise r f u from to on_line.Line same ss = refl
beside_text t n raise r f u from to on_line.Inline same ss = refl
beside_text t n raise r f u from to on_line.Text true ss = refl
beside_text t n raise r f u from to on_line.Text false ss = refl
beside_text t n raise r f u from to on_line.Atomic same ss = refl

behind_text : (t : ℕ) (raise : Unit) (from to : ℤ) (ss : List Span) → atomic_spans (with_text_span t raise from to ss) ≡ atomic_spans ss
behind_text t raise from to [] = refl
behind_text t raise from to (s ∷ ss) = beside_text t s.node raise s.raise s.from s.to from to s.kind (s.node == t) ss

behind_part : (areas : List InlineArea) (x : Part) (kept : Bool) (raise : Unit) (from to edge : ℤ) (ss : List Span)
    → atomic_spans (with_shown areas (shown_of x kept) raise from to edge ss) ≡ atomic_box x ++ atomic_spans ss
behind_part areas (Space w) true raise from to edge ss = behind_text w.text raise from to ss
behind_part areas (Space w) false raise from to edge ss = refl
behind_part areas (PreservedSpace w) kept raise from to edge ss = behind_text w.text raise from to ss
behind_part areas (Tab t) kept raise from to edge ss = behind_text t raise from to ss
behind_part areas Linefeed kept raise from to edge ss = refl
behind_part areas (Text w) kept raise from to edge ss = behind_text w.text raise from to ss
behind_part areas (Start b) kept raise from to edge ss = refl
behind_part areas (End b) kept raise from to edge ss = refl
behind_part areas (Atomic b) kept raise from to edge ss = refl

spans_of_parts : (areas : List InlineArea) (end : ℤ) (fr : Frame) (p : Pen) (r : RaisesValue) (xs : List Part) → atomic_spans (spans_of areas end (strokes fr p r xs)) ≡ atomic_boxes xs
spans_of_parts areas end fr p r [] = refl
spans_of_parts areas end fr p r (x ∷ xs) =
    let s = stroke_of x (raise_of r x) p (over fr p x) in
    let ss = strokes fr (over fr p x) (raises_after r x) xs in
    let followed = has_content ss in
    behind_part areas x (stays s followed) s.raise (begin_of s followed) (end_of s followed) (edge_at (ended_right_edges areas ss) 0 end) (spans_of areas end ss)
    ∙ ap (λ (ns : List ℕ). atomic_box x ++ ns) (spans_of_parts areas end fr (over fr p x) (raises_after r x) xs)

pub one_piece_lem : EachAtomicBoxHasOnePiece
one_piece_lem c areas fr row ns xs =
    let end = content_end fr row xs in
    let edges = ended_right_edges areas (line_strokes fr row ns xs) in
    let spans = spans_of areas end (line_strokes fr row ns xs) in
    pieces_of_spans areas (origin_of c row end) (baseline_of row) (line_spans areas fr row ns xs)
    ∙ behind_open (start_of fr row.reach.start.0) end edges (behind_strut row.shifts) ns spans
    ∙ spans_of_parts areas end fr (blank_of fr row) (raises_of row.shifts (length ns)) xs
