use Rattle.std.proofs.Common.{◌≡◌, ◌∙◌, ◌++◌, ◌∷◌, [], List, length, map, reverse, ap, sym, subst}
use Rattle.std.proofs.lemmas.List.{append_assoc}
use Rattle.std.proofs.lemmas.List.Elements.{All-same}
use Rattle.lay_units.specs.declared.length.Unit.{Unit}
use Rattle.lay_lines.specs.declared.content.pen.Pen.{Pen}
use Rattle.lay_lines.specs.Content.Pens.{over_all}
use Rattle.lay_inlines.specs.Bounds.{PenWithin, StrokeWithin}
use Rattle.lay_inlines.specs.LinePieces.{baseline_of, blank_of, content_end, line_spans, origin_of, piece_of}
use Rattle.lay_inlines.specs.Looks.{LookAs}
use Rattle.lay_inlines.specs.Spans.{open_spans, ended_right_edges, spans_of}
use Rattle.lay_inlines.specs.declared.line_piece.LinePiece.{LinePiece}
use Rattle.lay_inlines.specs.declared.strokes.Stroke.{Stroke}
use Rattle.lay_inlines.specs.Raises.{behind_strut, raises_of}
use Rattle.lay_inlines.specs.Strokes.{parts_of, strokes}
use Rattle.lay_inlines.proofs.Looks.{same_edges, same_spans}
use Rattle.lay_inlines.proofs.PenPlaces.{pen_fits, first_within, last_within}
use Rattle.lay_inlines.proofs.RaisesWithin.{start_within, strokes_within}
use Rattle.lay_inlines.proofs.line.Sheet.put_line.Goals as goal

pub blank-blank-requires-clause-fits : goal.blank-blank-requires-clause-fits
blank-blank-requires-clause-fits c =
    let fr = c.args.line.now.frame in
    pen_fits (blank_of fr c.args.line.now.row.now) (first_within fr (blank_of fr c.args.line.now.row.now) (parts_of c.args.taken.now) c.requires.pens)

pub fill-requires-clause-strokes : goal.fill-requires-clause-strokes
fill-requires-clause-strokes c =
    let fr = c.args.line.now.frame in
    let row = c.args.line.now.row.now in
    let p = blank_of fr row in
    let r = raises_of row.shifts (length c.args.open_boxes.now) in
    let xs = parts_of c.args.taken.now in
    let raises : c.in_ok-raises.raises ≡ r = c.in_ok-raises.ensures ∙ ap (λ (us : List Unit). raises_of us (length c.args.open_boxes.now)) c.as_slice-shifts.ensures in
    let e : c.clear.new.self ++ strokes fr c.blank-blank.result c.in_ok-raises.raises xs ≡ strokes fr p r xs = (λ i. c.clear.ensures i ++ strokes fr (c.blank-blank.ensures i) (raises i) xs) in
    let drawn = c.in_ok-last.ensures.strokes.within (All-same StrokeWithin _ (strokes fr p r xs) e (strokes_within fr p r xs c.requires.pens (start_within row.shifts (length c.args.open_boxes.now) c.requires.line.row.shifts))) in
    drawn

pub fill-requires-clause-start : goal.fill-requires-clause-start
fill-requires-clause-start c =
    let fr = c.args.line.now.frame in
    let p = blank_of fr c.args.line.now.row.now in
    let w = first_within fr p (parts_of c.args.taken.now) c.requires.pens in
    (subst PenWithin (sym c.blank-blank.ensures) w).at

pub fill-requires-clause-end : goal.fill-requires-clause-end
fill-requires-clause-end c =
    let fr = c.args.line.now.frame in
    let p = blank_of fr c.args.line.now.row.now in
    let w = last_within fr p (parts_of c.args.taken.now) c.requires.pens in
    (subst PenWithin (sym (c.in_ok-last.ensures.pen ∙ ap (λ (q : Pen). over_all fr q (parts_of c.args.taken.now)) c.blank-blank.ensures)) w).solid

pub origin-requires-clause-end : goal.origin-requires-clause-end
origin-requires-clause-end c =
    let fr = c.args.line.now.frame in
    let p = blank_of fr c.args.line.now.row.now in
    let w = last_within fr p (parts_of c.args.taken.now) c.requires.pens in
    (subst PenWithin (sym (c.in_ok-last.ensures.pen ∙ ap (λ (q : Pen). over_all fr q (parts_of c.args.taken.now)) c.blank-blank.ensures)) w).solid

-- what is drawn shows the same as the line's strokes
pub returns : goal.returns
returns c =
    let line = c.args.line.now in
    let fr = line.frame in
    let row = line.row.now in
    let areas = line.areas.now in
    let ns = c.args.open_boxes.now in
    let xs = parts_of c.args.taken.now in
    let p = blank_of fr row in
    let r = raises_of row.shifts (length ns) in
    let exact = strokes fr p r xs in
    let drawn = c.draw.new.out in
    let shifts = c.as_slice-shifts.ensures in
    let raises : c.in_ok-raises.raises ≡ r = c.in_ok-raises.ensures ∙ ap (λ (us : List Unit). raises_of us (length ns)) shifts in
    let e : c.clear.new.self ++ strokes fr c.blank-blank.result c.in_ok-raises.raises xs ≡ exact = (λ i. c.clear.ensures i ++ strokes fr (c.blank-blank.ensures i) (raises i) xs) in
    let looks = subst (λ (ss : List Stroke). LookAs drawn ss) e c.in_ok-last.ensures.strokes in
    let last : c.in_ok-last.last ≡ over_all fr p xs = c.in_ok-last.ensures.pen ∙ ap (λ (q : Pen). over_all fr q xs) c.blank-blank.ensures in
    let edges : ended_right_edges areas drawn ≡ ended_right_edges areas exact = same_edges drawn exact areas looks in
    let shown : spans_of areas c.in_ok-last.last.solid.0 drawn ≡ spans_of areas (over_all fr p xs).solid.0 exact =
    (λ i. spans_of areas (last i).solid.0 drawn) ∙ same_spans drawn exact areas (over_all fr p xs).solid.0 looks in
    let strut : c.behind_strut.result.now ≡ behind_strut row.shifts = c.behind_strut.ensures ∙ ap behind_strut shifts in
    let spans : reverse c.fill.new.self.spans.items ≡ line_spans areas fr row ns xs =
    c.in_ok-fill.ensures.spans ∙ (λ i. open_spans (c.blank-blank.ensures i).at.0 (last i).solid.0 (edges i) (strut i) ns ++ shown i) in
    let x : c.origin.result.x.0 ≡ origin_of line.container row (content_end fr row xs) = c.origin.ensures.x ∙ ap (λ (q : Pen). origin_of line.container row q.solid.0) last in
    c.in_ok-write.ensures
    ∙ (λ i. c.in_ok-push.ensures.items i ++ map (piece_of areas (x i) (c.origin.ensures.y i)) (spans i))
    ∙ append_assoc c.args.out.now.items (c.line_box.result ∷ []) (map (piece_of areas (origin_of line.container row (content_end fr row xs)) (baseline_of row)) (line_spans areas fr row ns xs))
    ∙ ap (λ (b : LinePiece). c.args.out.now.items ++ b ∷ map (piece_of areas (origin_of line.container row (content_end fr row xs)) (baseline_of row)) (line_spans areas fr row ns xs)) c.line_box.ensures
