use Rattle.std.proofs.Common.{◌≡◌, ◌∙◌, ◌++◌, ◌∷◌, [], List, refl, ap, sym, subst}
use Rattle.lay_inlines.specs.declared.strokes.Stroke.{Stroke}
use Rattle.lay_inlines.specs.Looks.{LookAs}
use Rattle.lay_inlines.specs.Raises.{raise_of}
use Rattle.lay_inlines.specs.StrokeLists.{strokes_in}
use Rattle.lay_inlines.specs.Strokes.{stroke_of}
use Rattle.lay_inlines.proofs.Looks.{reaches_over}
use Rattle.lay_inlines.proofs.strokes.reach_over.Goals as goal

pub returns-then-goes_on-clause-over : goal.returns-then-goes_on-clause-over
returns-then-goes_on-clause-over c _ =
    let front = c.strokes.inside.front.items in
    let last = c.in-Some.last in
    let x = c.args.part.now in
    let s = stroke_of x (raise_of c.args.raises.now x) c.args.before.now c.args.after.now in
    let new : Stroke = record { part = last.part; raise = last.raise; before = last.before; after = c.args.after.now } in
    let is : c.args.strokes.now ≡ front ++ last ∷ [] = sym c.strokes.view_is ∙ ap (strokes_in front) c.in-Some.is in
    subst (λ (ss : List Stroke). LookAs (front ++ new ∷ []) (ss ++ s ∷ [])) (sym is) (reaches_over front last new s (c.if-goes_on.ensures.over refl))
