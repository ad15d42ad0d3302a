use Rattle.std.proofs.Common.{◌∙◌, ◌++◌, ◌+◌, List, drop, get_or, ap, sym, subst, rules}
use Rattle.lay_lines.specs.declared.content.content.Part.{Part}
use Rattle.lay_lines.specs.declared.content.pen.Pen.{Pen}
use Rattle.lay_lines.specs.Content.Pens.{over_all}
use Rattle.lay_inlines.specs.Bounds.{PensWithin}
use Rattle.lay_inlines.specs.Looks.{LookAs}
use Rattle.lay_inlines.specs.Raises.{RaisesValue, raises_after_all}
use Rattle.lay_inlines.specs.Strokes.{parts_of, strokes}
use Rattle.lay_inlines.proofs.Content.{parts_more, over_all-append, raises-append, draw_more}
use Rattle.lay_inlines.proofs.Looks.{looks_through}
use Rattle.lay_inlines.proofs.PenPlaces.{front_within, back_within}
use Rattle.lay_inlines.proofs.strokes.draw.Goals as goal

pub draw_parts-requires : goal.draw_parts-requires
draw_parts-requires c =
    let here = get_or c.args.stretches.now c.loop-k.k c.index-stretches-k.result in
    let rest = parts_of (drop (c.loop-k.k + 1) c.args.stretches.now) in
    let fr = c.args.frame.now in
    let more = parts_more c.args.stretches.now c.loop-k.k c.index-stretches-k.result (search rules) in
    let all = subst (λ (xs : List Part). PensWithin fr c.loop-k.pen xs) more c.loop-k.invariant.fits in
    subst (λ (xs : List Part). PensWithin fr c.loop-k.pen xs) (sym c.as_slice.ensures) (front_within fr c.loop-k.pen here.parts rest all)

pub loop-k-preserved : goal.loop-k-preserved
loop-k-preserved c =
    let here = get_or c.args.stretches.now c.loop-k.k c.index-stretches-k.result in
    let rest = parts_of (drop (c.loop-k.k + 1) c.args.stretches.now) in
    let fr = c.args.frame.now in
    let p = c.loop-k.pen in
    let r = c.loop-k.raises in
    let more = parts_more c.args.stretches.now c.loop-k.k c.index-stretches-k.result (search rules) in
    let same = c.as_slice.ensures in
    let pen = c.in_ok-pen.ensures.pen ∙ ap (λ (xs : List Part). over_all fr p xs) same in
    let raises = c.in_ok-pen.ensures.raises ∙ ap (λ (xs : List Part). raises_after_all r xs) same in
    let all = subst (λ (xs : List Part). PensWithin fr p xs) more c.loop-k.invariant.fits in
    let strokes_here = subst (λ (xs : List Part). LookAs c.draw_parts.new.out (c.loop-k.out ++ strokes fr p r xs)) same c.in_ok-pen.ensures.strokes in
    record {
      strokes = looks_through _ _ _ (draw_more fr p c.in_ok-pen.pen r c.draw_parts.new.raises here.parts rest c.loop-k.out c.draw_parts.new.out strokes_here pen raises)
          (subst (λ (xs : List Part). LookAs (c.loop-k.out ++ strokes fr p r xs) (c.args.out.now ++ strokes fr c.args.pen c.args.raises.now (parts_of c.args.stretches.now)))
          more c.loop-k.invariant.strokes);
      raises = ap (λ (s : RaisesValue). raises_after_all s rest) raises ∙ sym (raises-append r here.parts rest)
          ∙ ap (λ (xs : List Part). raises_after_all r xs) (sym more) ∙ c.loop-k.invariant.raises;
      pen = ap (λ (q : Pen). over_all fr q rest) pen ∙ sym (over_all-append fr p here.parts rest) ∙ ap (λ (xs : List Part). over_all fr p xs) (sym more) ∙ c.loop-k.invariant.pen;
      fits = subst (λ (q : Pen). PensWithin fr q rest) (sym pen) (back_within fr p here.parts rest all);
    }
