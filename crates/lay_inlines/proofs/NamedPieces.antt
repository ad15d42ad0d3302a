-- Each inline box of a line has one piece, and each text that stays on it.
use Rattle.std.proofs.Common.{◌≡◌, ◌∙◌, ◌⊎◌, inl, inr, ℕ, zero, suc, ◌<◌, ◌==◌, ◌&&◌, ◌||◌, ℤ, Bool, true, false, if◌then◌else◌, IsTrue, IsFalse, List, [], ◌∷◌, ◌++◌, length, drop, map, slice_get, Some, refl, sym, ap, subst, arith}
use Rattle.std.specs.List.{list_any}
use Rattle.std.proofs.lemmas.Bool.{cases_Bool, eq-eqb, eqb-true, or_right}
use Rattle.std.proofs.lemmas.List.Folds.{list_any-append}
use Rattle.std.proofs.Math.Bool.{or-false}
use Rattle.lay_units.specs.declared.length.Unit.{Unit}
use Rattle.lay_lines.specs.declared.content.content.InlineArea.{InlineArea}
use Rattle.lay_lines.specs.declared.content.content.Part.{Part}
use Rattle.lay_lines.specs.declared.content.content.Part.TheVariants.{Space, PreservedSpace, Tab, Linefeed, Text, Start, End, Atomic}
use Rattle.lay_lines.specs.declared.content.frame.Frame.{Frame}
use Rattle.lay_lines.specs.declared.content.pen.Pen.{Pen}
use Rattle.lay_lines.specs.Content.Pens.{over, start_of}
use Rattle.lay_lines.proofs.ContentLemmas.Outcomes.{not_both}
use Rattle.lay_lines.specs.declared.row.Ended.{Ended}
use Rattle.lay_inlines.specs.declared.line_piece.LinePieceKind.{LinePieceKind}
use Rattle.lay_inlines.specs.declared.line_piece.LinePieceKind.TheVariants as on_line
use Rattle.lay_inlines.specs.declared.lines.Container.{Container}
use Rattle.lay_inlines.specs.declared.spans.Span.{Span}
use Rattle.lay_inlines.specs.declared.strokes.Shown.{Shown}
use Rattle.lay_inlines.specs.declared.strokes.Shown.TheVariants.{OfText, OfAtomic, Opens, Closes, Nothing}
use Rattle.lay_inlines.specs.Laws.{EachInlineBoxHasOnePiece, EachTextOnALineHasAPiece, NoTextHasTwoPieces}
use Rattle.lay_inlines.specs.LinePieces.{piece_of, baseline_of, origin_of, blank_of, content_end, line_pieces_of, line_spans, line_strokes}
use Rattle.lay_inlines.specs.NamedPieces.{EachOnce, TextsAreWhole, is_among, is_inline, pieces_of_kind, started_box, started_boxes, staying_texts, text_of}
use Rattle.lay_inlines.specs.Raises.{RaisesValue, raise_of, raises_after, raises_of, behind_strut}
use Rattle.lay_inlines.specs.Spans.{edge_at, is_text, open_spans, ended_right_edges, span_of, spans_of, with_shown, with_text_span}
use Rattle.lay_inlines.specs.Strokes.{begin_of, end_of, has_content, is_content, shown_of, stays, stroke_of, strokes}

abbrev spans_of_kind : (LinePieceKind → Bool) → List Span → List ℕ
spans_of_kind is_kind [] = []
spans_of_kind is_kind (s ∷ ss) = if is_kind s.kind then s.node ∷ spans_of_kind is_kind ss else spans_of_kind is_kind ss

pieces_of_spans : (is_kind : LinePieceKind → Bool) (areas : List InlineArea) (origin baseline : ℤ) (ss : List Span)
    → pieces_of_kind is_kind (map (piece_of areas origin baseline) ss) ≡ spans_of_kind is_kind ss
pieces_of_spans is_kind areas origin baseline [] = refl
pieces_of_spans is_kind areas origin baseline (s ∷ ss) =
    ap (λ (ns : List ℕ). if is_kind s.kind then s.node ∷ ns else ns) (pieces_of_spans is_kind areas origin baseline ss)

abbrev boxes : List Span → List ℕ
boxes ss = spans_of_kind is_inline ss

abbrev texts : List Span → List ℕ
texts ss = spans_of_kind is_text ss

-- a span of this kind
abbrev made : LinePieceKind → ℕ → Unit → Unit → Unit → Span
made kind n raise from to = record { kind = kind; node = n; raise = raise; from = from; to = to }

-- a bit of a text before a span, with which it is one where it is `same`
abbrev joined : ℕ → Unit → ℤ → ℤ → Bool → Span → List Span → List Span
joined t raise from to same s ss = if is_text s.kind && same then span_of on_line.Text t raise from s.to.0 ∷ ss else span_of on_line.Text t raise from to ∷ s ∷ ss

-- Inline boxes.

open_boxes : (start end : ℤ) (edges raises : List Unit) (ns : List ℕ) (ss : List Span) → boxes (open_spans start end edges raises ns ++ ss) ≡ ns ++ boxes ss
open_boxes start end edges raises [] ss = refl
open_boxes start end edges raises (n ∷ ns) ss = ap (λ (ms : List ℕ). n ∷ ms) (open_boxes start end edges (drop 1 raises) ns ss)

beside_text : (t n : ℕ) (raise r f u : Unit) (from to : ℤ) (kind : LinePieceKind) (same : Bool) (ss : List Span) → boxes (joined t raise from to same (made kind n r f u) ss) ≡ boxes (made kind n r f u ∷ ss)
beside_text t n raise r f u from to on_line.Line same ss = refl
beside_text t n raise r f u from to on_line.Inline same ss = refl
beside_text t n raise r f u from to on_line.Text true ss = refl
beside_text t n raise r f u from to on_line.Text false ss = refl
beside_text t n raise r f u from to on_line.Atomic same ss = refl

behind_text : (t : ℕ) (raise : Unit) (from to : ℤ) (ss : List Span) → boxes (with_text_span t raise from to ss) ≡ boxes ss
behind_text t raise from to [] = refl
behind_text t raise from to (s ∷ ss) = beside_text t s.node raise s.raise s.from s.to from to s.kind (s.node == t) ss

boxes_more : (areas : List InlineArea) (x : Part) (kept : Bool) (raise : Unit) (from to edge : ℤ) (ss : List Span) → boxes (with_shown areas (shown_of x kept) raise from to edge ss) ≡ started_box x ++ boxes ss
boxes_more areas (Space w) true raise from to edge ss = behind_text w.text raise from to ss
boxes_more areas (Space w) false raise from to edge ss = refl
boxes_more areas (PreservedSpace w) kept raise from to edge ss = behind_text w.text raise from to ss
boxes_more areas (Tab t) kept raise from to edge ss = behind_text t raise from to ss
boxes_more areas Linefeed kept raise from to edge ss = refl
boxes_more areas (Text w) kept raise from to edge ss = behind_text w.text raise from to ss
boxes_more areas (Start b) kept raise from to edge ss = refl
boxes_more areas (End b) kept raise from to edge ss = refl
boxes_more areas (Atomic b) kept raise from to edge ss = refl

boxes_of_parts : (areas : List InlineArea) (end : ℤ) (fr : Frame) (p : Pen) (r : RaisesValue) (xs : List Part) → boxes (spans_of areas end (strokes fr p r xs)) ≡ started_boxes xs
boxes_of_parts areas end fr p r [] = refl
boxes_of_parts areas end fr p r (x ∷ xs) =
    let s = stroke_of x (raise_of r x) p (over fr p x) in
    let ss = strokes fr (over fr p x) (raises_after r x) xs in
    let followed = has_content ss in
    boxes_more areas x (stays s followed) s.raise (begin_of s followed) (end_of s followed) (edge_at (ended_right_edges areas ss) 0 end) (spans_of areas end ss)
    ∙ ap (λ (ns : List ℕ). started_box x ++ ns) (boxes_of_parts areas end fr (over fr p x) (raises_after r x) xs)

pub each_inline_box_lem : EachInlineBoxHasOnePiece
each_inline_box_lem c areas fr row ns xs =
    let end = content_end fr row xs in
    let edges = ended_right_edges areas (line_strokes fr row ns xs) in
    let spans = spans_of areas end (line_strokes fr row ns xs) in
    pieces_of_spans is_inline areas (origin_of c row end) (baseline_of row) (line_spans areas fr row ns xs)
    ∙ open_boxes (start_of fr row.reach.start.0) end edges (behind_strut row.shifts) ns spans
    ∙ ap (λ (ms : List ℕ). ns ++ ms) (boxes_of_parts areas end fr (blank_of fr row) (raises_of row.shifts (length ns)) xs)

-- Texts: each that stays on the line has a piece.

open_texts : (start end : ℤ) (edges raises : List Unit) (ns : List ℕ) (ss : List Span) → texts (open_spans start end edges raises ns ++ ss) ≡ texts ss
open_texts start end edges raises [] ss = refl
open_texts start end edges raises (n ∷ ns) ss = open_texts start end edges (drop 1 raises) ns ss

texts_of_line : (c : Container) (areas : List InlineArea) (fr : Frame) (row : Ended) (ns : List ℕ) (xs : List Part)
    → pieces_of_kind is_text (line_pieces_of c areas fr row ns xs) ≡ texts (spans_of areas (content_end fr row xs) (line_strokes fr row ns xs))
texts_of_line c areas fr row ns xs =
    let end = content_end fr row xs in
    let edges = ended_right_edges areas (line_strokes fr row ns xs) in
    pieces_of_spans is_text areas (origin_of c row end) (baseline_of row) (line_spans areas fr row ns xs)
    ∙ open_texts (start_of fr row.reach.start.0) end edges (behind_strut row.shifts) ns (spans_of areas end (line_strokes fr row ns xs))

or_twice : (b c : Bool) → (b || (b || c)) ≡ (b || c)
or_twice true c = refl
or_twice false c = refl

abbrev shown_text : Shown → List ℕ
shown_text (OfText t) = t ∷ []
shown_text (OfAtomic n) = []
shown_text (Opens n) = []
shown_text (Closes n) = []
shown_text Nothing = []

staying : (x : Part) (kept : Bool) → shown_text (shown_of x kept) ≡ (if is_content x || kept then text_of x else [])
staying (Space w) true = refl
staying (Space w) false = refl
staying (PreservedSpace w) kept = refl
staying (Tab t) kept = refl
staying Linefeed true = refl
staying Linefeed false = refl
staying (Text w) kept = refl
staying (Start b) true = refl
staying (Start b) false = refl
staying (End b) true = refl
staying (End b) false = refl
staying (Atomic b) kept = refl

among_joined : (q t n : ℕ) (raise r f u : Unit) (from to : ℤ) (kind : LinePieceKind) (same : Bool) (ss : List Span) → (same ≡ true → n ≡ t)
    → is_among q (texts (joined t raise from to same (made kind n r f u) ss)) ≡ ((q == t) || is_among q (texts (made kind n r f u ∷ ss)))
among_joined q t n raise r f u from to on_line.Line same ss e = refl
among_joined q t n raise r f u from to on_line.Inline same ss e = refl
among_joined q t n raise r f u from to on_line.Text true ss e =
    sym (ap (λ (m : ℕ). (q == t) || ((q == m) || is_among q (texts ss))) (e refl) ∙ or_twice (q == t) (is_among q (texts ss)))
among_joined q t n raise r f u from to on_line.Text false ss e = refl
among_joined q t n raise r f u from to on_line.Atomic same ss e = refl

among_text : (q t : ℕ) (raise : Unit) (from to : ℤ) (ss : List Span) → is_among q (texts (with_text_span t raise from to ss)) ≡ ((q == t) || is_among q (texts ss))
among_text q t raise from to [] = refl
among_text q t raise from to (s ∷ ss) = among_joined q t s.node raise s.raise s.from s.to from to s.kind (s.node == t) ss (λ e. eqb-true s.node t e)

among_shown : (q : ℕ) (areas : List InlineArea) (shown : Shown) (raise : Unit) (from to edge : ℤ) (ss : List Span)
    → is_among q (texts (with_shown areas shown raise from to edge ss)) ≡ (is_among q (shown_text shown) || is_among q (texts ss))
among_shown q areas (OfText t) raise from to edge ss = among_text q t raise from to ss ∙ ap (λ (b : Bool). b || is_among q (texts ss)) (sym (or-false (q == t)))
among_shown q areas (OfAtomic n) raise from to edge ss = refl
among_shown q areas (Opens n) raise from to edge ss = refl
among_shown q areas (Closes n) raise from to edge ss = refl
among_shown q areas Nothing raise from to edge ss = refl

followed_is : (fr : Frame) (p : Pen) (r : RaisesValue) (xs : List Part) → has_content (strokes fr p r xs) ≡ list_any is_content xs
followed_is fr p r [] = refl
followed_is fr p r (x ∷ xs) = ap (λ (b : Bool). is_content x || b) (followed_is fr (over fr p x) (raises_after r x) xs)

started_if : (b : Bool) (p q : Pen) → p.started ≡ b → q.started ≡ true → (if b then q else p).started ≡ (b || false)
started_if true p q e f = f
started_if false p q e f = e

started_is : (fr : Frame) (p : Pen) (x : Part) → (over fr p x).started ≡ (p.started || is_content x)
started_is fr p (Space w) = started_if p.started p _ refl refl
started_is fr p (PreservedSpace w) = sym (or_right p.started true refl)
started_is fr p (Tab t) = sym (or_right p.started true refl)
started_is fr p Linefeed = sym (or-false p.started)
started_is fr p (Text w) = sym (or_right p.started true refl)
started_is fr p (Start b) = sym (or-false p.started)
started_is fr p (End b) = sym (or-false p.started)
started_is fr p (Atomic b) = sym (or_right p.started true refl)

among_spans : (q : ℕ) (areas : List InlineArea) (end : ℤ) (fr : Frame) (p : Pen) (r : RaisesValue) (xs : List Part)
    → is_among q (texts (spans_of areas end (strokes fr p r xs))) ≡ is_among q (staying_texts p.started xs)
among_spans q areas end fr p r [] = refl
among_spans q areas end fr p r (x ∷ xs) =
    let s = stroke_of x (raise_of r x) p (over fr p x) in
    let ss = strokes fr (over fr p x) (raises_after r x) xs in
    let followed = has_content ss in
    let rest = spans_of areas end ss in
    let behind = staying_texts (p.started || is_content x) xs in
    let front = staying x (stays s followed) ∙ ap (λ (b : Bool). if is_content x || (p.started && b) then text_of x else []) (followed_is fr (over fr p x) (raises_after r x) xs) in
    let later = among_spans q areas end fr (over fr p x) (raises_after r x) xs ∙ ap (λ (b : Bool). is_among q (staying_texts b xs)) (started_is fr p x) in
    among_shown q areas (shown_of x (stays s followed)) s.raise (begin_of s followed) (end_of s followed) (edge_at (ended_right_edges areas ss) 0 end) rest
    ∙ ap (λ (ns : List ℕ). is_among q ns || is_among q (texts rest)) front
    ∙ ap (λ (b : Bool). is_among q (if is_content x || (p.started && list_any is_content xs) then text_of x else []) || b) later
    ∙ sym (list_any-append (λ (m : ℕ). q == m) (if is_content x || (p.started && list_any is_content xs) then text_of x else []) behind)

pub each_text_lem : EachTextOnALineHasAPiece
each_text_lem c areas fr row ns xs t =
    ap (λ (ms : List ℕ). is_among t ms) (texts_of_line c areas fr row ns xs)
    ∙ among_spans t areas (content_end fr row xs) fr (blank_of fr row) (raises_of row.shifts (length ns)) xs

-- Texts: none has two pieces.

single_is : (q t : ℕ) → IsTrue (is_among q (t ∷ [])) → t ∷ [] ≡ q ∷ []
single_is q t h = ap (λ (n : ℕ). n ∷ []) (sym (eqb-true q t (sym (or-false (q == t)) ∙ h)))

single : (q : ℕ) (x : Part) → IsTrue (is_among q (text_of x)) → text_of x ≡ q ∷ []
single q (Space w) h = single_is q w.text h
single q (PreservedSpace w) h = single_is q w.text h
single q (Tab t) h = single_is q t h
single q Linefeed h = absurd (not_both false h refl)
single q (Text w) h = single_is q w.text h
single q (Start b) h = absurd (not_both false h refl)
single q (End b) h = absurd (not_both false h refl)
single q (Atomic b) h = absurd (not_both false h refl)

single_if : (q : ℕ) (b : Bool) (x : Part) → IsTrue (is_among q (if b then text_of x else [])) → text_of x ≡ q ∷ []
single_if q true x h = single q x h
single_if q false x h = absurd (not_both false h refl)

abbrev Found : ℕ → List Part → Type 0
Found q xs = (k : ℕ) × (z : Part) × (slice_get xs k ≡ Some z) × (text_of z ≡ q ∷ [])

found : (q : ℕ) (before : Bool) (xs : List Part) → IsTrue (is_among q (staying_texts before xs)) → Found q xs
found q before [] h = absurd (not_both false h refl)
found q before (x ∷ xs) h =
    let front = if is_content x || (before && list_any is_content xs) then text_of x else [] in
    let behind = staying_texts (before || is_content x) xs in
    let both = list_any-append (λ (m : ℕ). q == m) front behind in
    elim (cases_Bool (is_among q front)) [
      | inl some ↦ (zero, x, refl, single_if q (is_content x || (before && list_any is_content xs)) x some)
      | inr none ↦ (let w = found q (before || is_content x) xs (sym (ap (λ (b : Bool). b || is_among q behind) none) ∙ sym both ∙ h) in (suc w.0, w.1, w.2, w.3))
    ]

-- the first of these spans is of the text
abbrev starts_with : ℕ → List Span → Bool
starts_with t [] = false
starts_with t (s ∷ ss) = is_text s.kind && (s.node == t)

start_joined : (t u : ℕ) (raise : Unit) (from to : ℤ) (b : Bool) (s : Span) (ss : List Span) → u ≡ t
    → IsTrue (starts_with t (if b then span_of on_line.Text u raise from s.to.0 ∷ ss else span_of on_line.Text u raise from to ∷ s ∷ ss))
start_joined t u raise from to true s ss e = eq-eqb u t e
start_joined t u raise from to false s ss e = eq-eqb u t e

abbrev first_of : List ℕ → ℕ
first_of [] = 0
first_of (n ∷ ns) = n

start_text : (t u : ℕ) (raise : Unit) (from to : ℤ) (ss : List Span) → u ∷ [] ≡ t ∷ [] → IsTrue (starts_with t (with_text_span u raise from to ss))
start_text t u raise from to [] e = eq-eqb u t (ap first_of e)
start_text t u raise from to (s ∷ ss) e = start_joined t u raise from to (is_text s.kind && (s.node == u)) s ss (ap first_of e)

start_shown : (t : ℕ) (areas : List InlineArea) (shown : Shown) (raise : Unit) (from to edge : ℤ) (ss : List Span) → IsTrue (is_among t (shown_text shown)) → IsTrue (starts_with t (with_shown areas shown raise from to edge ss))
start_shown t areas (OfText u) raise from to edge ss h = start_text t u raise from to ss (single_is t u h)
start_shown t areas (OfAtomic n) raise from to edge ss h = absurd (not_both false h refl)
start_shown t areas (Opens n) raise from to edge ss h = absurd (not_both false h refl)
start_shown t areas (Closes n) raise from to edge ss h = absurd (not_both false h refl)
start_shown t areas Nothing raise from to edge ss h = absurd (not_both false h refl)

abbrev is_linefeed : Part → Bool
is_linefeed (Space w) = false
is_linefeed (PreservedSpace w) = false
is_linefeed (Tab t) = false
is_linefeed Linefeed = true
is_linefeed (Text w) = false
is_linefeed (Start b) = false
is_linefeed (End b) = false
is_linefeed (Atomic b) = false

no_linefeed : (y : Part) → IsFalse (is_linefeed y) → y ≡ Linefeed → ⊥
no_linefeed y not e = not_both (is_linefeed y) (ap is_linefeed e) not

abbrev count : List ℕ → Bool
count [] = false
count (n ∷ ns) = true

no_text : (t : ℕ) → [] ≡ t ∷ [] → ⊥
no_text t e = not_both false (ap count e) refl

-- what stands before a part of a text is of the text, or a linefeed
abbrev Behind : ℕ → List Part → Type 0
Behind t xs = (j k : ℕ) (y z : Part) → j < k → slice_get xs j ≡ Some y → slice_get xs k ≡ Some z → text_of z ≡ t ∷ [] → (text_of y ≡ t ∷ []) ⊎ (y ≡ Linefeed)

keeps_start : (t : ℕ) (areas : List InlineArea) (y : Part) (kept : Bool) (raise : Unit) (from to edge : ℤ) (rest : List Span) → ((text_of y ≡ t ∷ []) ⊎ (y ≡ Linefeed)) → IsTrue (starts_with t rest)
    → IsTrue (starts_with t (with_shown areas (shown_of y kept) raise from to edge rest))
keeps_start t areas (Space w) true raise from to edge rest (inl e) so_far = start_text t w.text raise from to rest e
keeps_start t areas (Space w) true raise from to edge rest (inr e) so_far = absurd (no_linefeed (Space w) refl e)
keeps_start t areas (Space w) false raise from to edge rest own so_far = so_far
keeps_start t areas (PreservedSpace w) kept raise from to edge rest (inl e) so_far = start_text t w.text raise from to rest e
keeps_start t areas (PreservedSpace w) kept raise from to edge rest (inr e) so_far = absurd (no_linefeed (PreservedSpace w) refl e)
keeps_start t areas (Tab u) kept raise from to edge rest (inl e) so_far = start_text t u raise from to rest e
keeps_start t areas (Tab u) kept raise from to edge rest (inr e) so_far = absurd (no_linefeed (Tab u) refl e)
keeps_start t areas Linefeed kept raise from to edge rest own so_far = so_far
keeps_start t areas (Text w) kept raise from to edge rest (inl e) so_far = start_text t w.text raise from to rest e
keeps_start t areas (Text w) kept raise from to edge rest (inr e) so_far = absurd (no_linefeed (Text w) refl e)
keeps_start t areas (Start b) kept raise from to edge rest (inl e) so_far = absurd (no_text t e)
keeps_start t areas (Start b) kept raise from to edge rest (inr e) so_far = absurd (no_linefeed (Start b) refl e)
keeps_start t areas (End b) kept raise from to edge rest own so_far = so_far
keeps_start t areas (Atomic b) kept raise from to edge rest (inl e) so_far = absurd (no_text t e)
keeps_start t areas (Atomic b) kept raise from to edge rest (inr e) so_far = absurd (no_linefeed (Atomic b) refl e)

-- where nothing else stands before what is left of a text, the first span is of it
starts : (t : ℕ) (areas : List InlineArea) (end : ℤ) (fr : Frame) (p : Pen) (r : RaisesValue) (xs : List Part) → Behind t xs → IsTrue (is_among t (texts (spans_of areas end (strokes fr p r xs))))
    → IsTrue (starts_with t (spans_of areas end (strokes fr p r xs)))
starts t areas end fr p r [] behind h = h
starts t areas end fr p r (y ∷ ys) behind h =
    let s = stroke_of y (raise_of r y) p (over fr p y) in
    let ss = strokes fr (over fr p y) (raises_after r y) ys in
    let followed = has_content ss in
    let rest = spans_of areas end ss in
    let from = begin_of s followed in
    let to = end_of s followed in
    let edge = edge_at (ended_right_edges areas ss) 0 end in
    let shown = shown_of y (stays s followed) in
    elim (cases_Bool (is_among t (texts rest))) [
      | inl some ↦ (let w = found t (over fr p y).started ys (sym (among_spans t areas end fr (over fr p y) (raises_after r y) ys) ∙ some) in
          let own = behind 0 (suc w.0) y w.1 (omega arith) refl w.2 w.3 in
          keeps_start t areas y (stays s followed) s.raise from to edge rest own
          (starts t areas end fr (over fr p y) (raises_after r y) ys (λ j k a b lt e f of. behind (suc j) (suc k) a b (omega (arith, lt)) e f of) some))
      | inr none ↦ start_shown t areas shown s.raise from to edge rest
          (sym (or-false (is_among t (shown_text shown))) ∙ sym (ap (λ (b : Bool). is_among t (shown_text shown) || b) none) ∙ sym (among_shown t areas shown s.raise from to edge rest) ∙ h)
    ]

once_joined : (t n : ℕ) (raise r f u : Unit) (from to : ℤ) (kind : LinePieceKind) (same : Bool) (ss : List Span) → (same ≡ true → n ≡ t) → EachOnce (texts (made kind n r f u ∷ ss))
    → (IsTrue (is_text kind && same) ⊎ IsFalse (is_among t (texts (made kind n r f u ∷ ss)))) → EachOnce (texts (joined t raise from to same (made kind n r f u) ss))
once_joined t n raise r f u from to on_line.Line same ss e once (inl not) = absurd (not_both false not refl)
once_joined t n raise r f u from to on_line.Line same ss e once (inr none) = (none, once)
once_joined t n raise r f u from to on_line.Inline same ss e once (inl not) = absurd (not_both false not refl)
once_joined t n raise r f u from to on_line.Inline same ss e once (inr none) = (none, once)
once_joined t n raise r f u from to on_line.Text true ss e once own = subst (λ (m : ℕ). EachOnce (m ∷ texts ss)) (e refl) once
once_joined t n raise r f u from to on_line.Text false ss e once (inl not) = absurd (not_both false not refl)
once_joined t n raise r f u from to on_line.Text false ss e once (inr none) = (none, once)
once_joined t n raise r f u from to on_line.Atomic same ss e once (inl not) = absurd (not_both false not refl)
once_joined t n raise r f u from to on_line.Atomic same ss e once (inr none) = (none, once)

-- the first span is of the text, or none is
abbrev AtStart : ℕ → List Span → Type 0
AtStart t ss = IsTrue (starts_with t ss) ⊎ IsFalse (is_among t (texts ss))

once_text : (t : ℕ) (raise : Unit) (from to : ℤ) (ss : List Span) → EachOnce (texts ss) → AtStart t ss → EachOnce (texts (with_text_span t raise from to ss))
once_text t raise from to [] once own = (refl, tt)
once_text t raise from to (s ∷ ss) once own = once_joined t s.node raise s.raise s.from s.to from to s.kind (s.node == t) ss (λ e. eqb-true s.node t e) once own

once_shown : (areas : List InlineArea) (x : Part) (kept : Bool) (raise : Unit) (from to edge : ℤ) (ss : List Span) → EachOnce (texts ss) → ((t : ℕ) → text_of x ≡ t ∷ [] → AtStart t ss)
    → EachOnce (texts (with_shown areas (shown_of x kept) raise from to edge ss))
once_shown areas (Space w) true raise from to edge ss once own = once_text w.text raise from to ss once (own w.text refl)
once_shown areas (Space w) false raise from to edge ss once own = once
once_shown areas (PreservedSpace w) kept raise from to edge ss once own = once_text w.text raise from to ss once (own w.text refl)
once_shown areas (Tab t) kept raise from to edge ss once own = once_text t raise from to ss once (own t refl)
once_shown areas Linefeed kept raise from to edge ss once own = once
once_shown areas (Text w) kept raise from to edge ss once own = once_text w.text raise from to ss once (own w.text refl)
once_shown areas (Start b) kept raise from to edge ss once own = once
once_shown areas (End b) kept raise from to edge ss once own = once
once_shown areas (Atomic b) kept raise from to edge ss once own = once

once_spans : (areas : List InlineArea) (end : ℤ) (fr : Frame) (p : Pen) (r : RaisesValue) (xs : List Part) → TextsAreWhole xs → EachOnce (texts (spans_of areas end (strokes fr p r xs)))
once_spans areas end fr p r [] whole = tt
once_spans areas end fr p r (x ∷ xs) whole =
    let s = stroke_of x (raise_of r x) p (over fr p x) in
    let ss = strokes fr (over fr p x) (raises_after r x) xs in
    let followed = has_content ss in
    let rest = spans_of areas end ss in
    let behind = once_spans areas end fr (over fr p x) (raises_after r x) xs (λ i j k a b c t lt less e f g of too. whole (suc i) (suc j) (suc k) a b c t (omega (arith, lt)) (omega (arith, less)) e f g of too) in
    once_shown areas x (stays s followed) s.raise (begin_of s followed) (end_of s followed) (edge_at (ended_right_edges areas ss) 0 end) rest behind
    (λ t of. elim (cases_Bool (is_among t (texts rest))) [
      | inl some ↦ inl (starts t areas end fr (over fr p x) (raises_after r x) xs (λ j k y z lt e f too. whole 0 (suc j) (suc k) x y z t (omega arith) (omega (arith, lt)) refl e f of too) some)
      | inr none ↦ inr none
    ])

pub no_text_twice_lem : NoTextHasTwoPieces
no_text_twice_lem c areas fr row ns xs whole =
    subst EachOnce (sym (texts_of_line c areas fr row ns xs)) (once_spans areas (content_end fr row xs) fr (blank_of fr row) (raises_of row.shifts (length ns)) xs whole)
