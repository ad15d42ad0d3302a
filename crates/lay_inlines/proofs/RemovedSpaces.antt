-- Collapsible spaces at the end of a line, and the end of its content.
use Rattle.std.proofs.Common.{◌≡◌, ◌∙◌, ℕ, zero, suc, ℤ, Bool, true, false, ◌&&◌, ◌||◌, if◌then◌else◌, List, [], ◌∷◌, ◌++◌, length, take, slice_get, map, refl, sym, ap}
use Rattle.std.proofs.lemmas.List.{append-nil}
use Rattle.lay_lines.specs.declared.content.content.Advance.{Advance}
use Rattle.lay_lines.specs.declared.content.content.InlineArea.{InlineArea}
use Rattle.lay_lines.specs.declared.content.content.Part.{Part}
use Rattle.lay_lines.specs.declared.content.content.Part.TheVariants.{Space}
use Rattle.lay_lines.specs.declared.content.content.Stretch.{Stretch}
use Rattle.lay_lines.specs.declared.content.frame.Frame.{Frame}
use Rattle.lay_lines.specs.declared.content.pen.Pen.{Pen}
use Rattle.lay_lines.specs.Content.Pens.{blank, over, over_all, past_at, pen_to, start_of}
use Rattle.lay_lines.specs.declared.row.Ended.{Ended}
use Rattle.lay_inlines.specs.declared.spans.Span.{Span}
use Rattle.lay_inlines.specs.Laws.{ContentEndsWithItsPen, SpacesAtTheEndAreRemoved}
use Rattle.lay_inlines.specs.LinePieces.{line_box, piece_of, baseline_of, origin_of, blank_of, content_end, line_spans}
use Rattle.lay_inlines.specs.Raises.{RaisesValue, raise_of, raises_after, raises_of, behind_strut}
use Rattle.lay_inlines.specs.Spans.{ended_right_edges, edges_before, edge_at, with_shown, spans_of, open_spans}
use Rattle.lay_inlines.specs.Strokes.{parts_of, strokes, stroke_of, is_content, has_content, begin_of, end_of, stays, shown_of}
use Rattle.lay_inlines.proofs.Content.{over_all-append}

-- the pen of a line's parts is that of its stretches
past_more : (fr : Frame) (p : Pen) (ss : List Stretch) (k : ℕ) → over_all fr p (parts_of (take (suc k) ss)) ≡ past_at fr (over_all fr p (parts_of (take k ss))) (slice_get ss k)
past_more fr p [] zero = refl
past_more fr p [] (suc k) = refl
past_more fr p (s ∷ ss) zero = ap (λ (xs : List Part). over_all fr p xs) (append-nil s.parts)
past_more fr p (s ∷ ss) (suc k) =
    over_all-append fr p s.parts (parts_of (take (suc k) ss)) ∙ past_more fr (over_all fr p s.parts) ss k
    ∙ ap (λ (q : Pen). past_at fr q (slice_get ss k)) (sym (over_all-append fr p s.parts (parts_of (take k ss))))

pen_of_parts : (fr : Frame) (a : ℤ) (ss : List Stretch) (k : ℕ) → over_all fr (blank (start_of fr a)) (parts_of (take k ss)) ≡ pen_to fr a ss k
pen_of_parts fr a ss zero = refl
pen_of_parts fr a ss (suc k) = past_more fr (blank (start_of fr a)) ss k ∙ ap (λ (q : Pen). past_at fr q (slice_get ss k)) (pen_of_parts fr a ss k)

pub content_ends_with_its_pen_lem : ContentEndsWithItsPen
content_ends_with_its_pen_lem p r is = ap (λ (q : Pen). q.solid.0) (pen_of_parts p.frame r.reach.start.0 p.rest r.reach.count ∙ sym is.pen_is)

or_not : (b : Bool) → b && false ≡ false
or_not true = refl
or_not false = refl

same_solid : (b : Bool) (p q : Pen) → p.solid.0 ≡ q.solid.0 → (if b then p else q).solid.0 ≡ q.solid.0
same_solid true p q e = e
same_solid false p q e = refl

end_without : (fr : Frame) (p : Pen) (xs : List Part) (w : Advance) → (over_all fr p (xs ++ Space w ∷ [])).solid.0 ≡ (over_all fr p xs).solid.0
end_without fr p xs w = ap (λ (q : Pen). q.solid.0) (over_all-append fr p xs (Space w ∷ [])) ∙ same_solid (over_all fr p xs).started _ _ refl

content_without : (fr : Frame) (p : Pen) (r : RaisesValue) (xs : List Part) (w : Advance)
    → has_content (strokes fr p r (xs ++ Space w ∷ [])) ≡ has_content (strokes fr p r xs)
content_without fr p r [] w = refl
content_without fr p r (x ∷ xs) w = ap (λ (b : Bool). is_content x || b) (content_without fr (over fr p x) (raises_after r x) xs w)

edges_without : (areas : List InlineArea) (fr : Frame) (p : Pen) (r : RaisesValue) (xs : List Part) (w : Advance)
    → ended_right_edges areas (strokes fr p r (xs ++ Space w ∷ [])) ≡ ended_right_edges areas (strokes fr p r xs)
edges_without areas fr p r [] w =
    ap (λ (b : Bool). edges_before areas (shown_of (Space w) b) (end_of (stroke_of (Space w) (raise_of r (Space w)) p (over fr p (Space w))) false) []) (or_not p.started)
edges_without areas fr p r (x ∷ xs) w =
    let s = stroke_of x (raise_of r x) p (over fr p x) in
    let f = content_without fr (over fr p x) (raises_after r x) xs w in
    let e = edges_without areas fr (over fr p x) (raises_after r x) xs w in
    λ i. edges_before areas (shown_of x (stays s (f i))) (end_of s (f i)) (e i)

spans_without : (areas : List InlineArea) (end : ℤ) (fr : Frame) (p : Pen) (r : RaisesValue) (xs : List Part) (w : Advance)
    → spans_of areas end (strokes fr p r (xs ++ Space w ∷ [])) ≡ spans_of areas end (strokes fr p r xs)
spans_without areas end fr p r [] w =
    let s = stroke_of (Space w) (raise_of r (Space w)) p (over fr p (Space w)) in
    ap (λ (b : Bool). with_shown areas (shown_of (Space w) b) s.raise (begin_of s false) (end_of s false) (edge_at [] 0 end) []) (or_not p.started)
spans_without areas end fr p r (x ∷ xs) w =
    let s = stroke_of x (raise_of r x) p (over fr p x) in
    let f = content_without fr (over fr p x) (raises_after r x) xs w in
    let e = edges_without areas fr (over fr p x) (raises_after r x) xs w in
    let rest = spans_without areas end fr (over fr p x) (raises_after r x) xs w in
    λ i. with_shown areas (shown_of x (stays s (f i))) s.raise (begin_of s (f i)) (end_of s (f i)) (edge_at (e i) 0 end) (rest i)

line_spans_without : (areas : List InlineArea) (fr : Frame) (row : Ended) (ns : List ℕ) (xs : List Part) (w : Advance) → line_spans areas fr row ns (xs ++ Space w ∷ []) ≡ line_spans areas fr row ns xs
line_spans_without areas fr row ns xs w =
    let p = blank_of fr row in
    let r = raises_of row.shifts (length ns) in
    let end = end_without fr p xs w in
    let edges = edges_without areas fr p r xs w in
    let spans = spans_without areas (content_end fr row xs) fr p r xs w in
    (λ i. open_spans (start_of fr row.reach.start.0) (end i) (edges i) (behind_strut row.shifts) ns ++ spans_of areas (end i) (strokes fr p r (xs ++ Space w ∷ [])))
    ∙ ap (λ (ys : List Span). open_spans (start_of fr row.reach.start.0) (content_end fr row xs) (ended_right_edges areas (strokes fr p r xs)) (behind_strut row.shifts) ns ++ ys) spans

pub spaces_at_the_end_lem : SpacesAtTheEndAreRemoved
spaces_at_the_end_lem c areas fr row ns xs w =
    let end = end_without fr (blank_of fr row) xs w in
    let spans = line_spans_without areas fr row ns xs w in
    λ i. line_box c.node row ∷ map (piece_of areas (origin_of c row (end i)) (baseline_of row)) (spans i)
