use Rattle.std.proofs.Common.{◌∙◌, ◌++◌, ◌+◌, List, drop, ap, refl, sym, subst, rules}
use Rattle.std.proofs.lemmas.List.{drop_more}
use Rattle.lay_lines.specs.declared.content.content.Part.{Part}
use Rattle.lay_lines.specs.declared.content.pen.Pen.{Pen}
use Rattle.lay_lines.specs.Content.Pens.{over_all}
use Rattle.lay_inlines.specs.Bounds.{PensWithin}
use Rattle.lay_inlines.specs.Looks.{LookAs}
use Rattle.lay_inlines.specs.Raises.{RaisesValue, raises_after_all}
use Rattle.lay_inlines.specs.Strokes.{strokes}
use Rattle.lay_inlines.proofs.Content.{drawn_more}
use Rattle.lay_inlines.proofs.Looks.{looks_through}
use Rattle.lay_inlines.proofs.PenPlaces.{next_within, over_fits}
use Rattle.lay_inlines.proofs.strokes.draw_parts.Goals as goal

pub over-after-requires : goal.over-after-requires
over-after-requires c = over_fits c.args.frame.now c.loop-k.before c.args.parts.now c.loop-k.k _ (search rules) c.loop-k.invariant.fits

pub loop-k-preserved : goal.loop-k-preserved
loop-k-preserved c =
    let fr = c.args.frame.now in
    let p = c.loop-k.before in
    let r = c.loop-k.raises in
    let xs = c.args.parts.now in
    let more = drop_more xs c.loop-k.k _ (search rules) in
    let rest = drop (c.loop-k.k + 1) xs in
    let old = c.loop-k.invariant in
    let pen = c.over-after.ensures in
    let raises = c.in_ok-put.ensures.raises in
    record {
      strokes = looks_through _ _ _ (drawn_more fr p c.over-after.result r c.put.new.raises _ _ rest c.loop-k.out c.put.new.out pen refl raises c.in_ok-put.ensures.strokes)
          (subst (λ (ys : List Part). LookAs (c.loop-k.out ++ strokes fr p r ys) (c.args.out.now ++ strokes fr c.args.pen c.args.raises.now xs)) more old.strokes);
      raises = ap (λ (s : RaisesValue). raises_after_all s rest) raises ∙ sym (ap (λ (ys : List Part). raises_after_all r ys) more) ∙ old.raises;
      pen = ap (λ (q : Pen). over_all fr q rest) pen ∙ sym (ap (λ (ys : List Part). over_all fr p ys) more) ∙ old.pen;
      fits = subst (λ (q : Pen). PensWithin fr q rest) (sym pen) (next_within fr p xs c.loop-k.k _ (search rules) old.fits);
    }
