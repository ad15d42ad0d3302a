-- The content of a line, stretch by stretch.
use Rattle.std.proofs.Common.{◌≡◌, ◌∙◌, ℕ, ◌+◌, ◌<◌, List, [], ◌∷◌, ◌++◌, length, drop, get_or, refl, sym, ap, subst}
use Rattle.std.proofs.lemmas.List.{drop_more, append_assoc}
use Rattle.lay_lines.specs.declared.content.content.Part.{Part}
use Rattle.lay_lines.specs.declared.content.content.Stretch.{Stretch}
use Rattle.lay_lines.specs.declared.content.frame.Frame.{Frame}
use Rattle.lay_lines.specs.declared.content.pen.Pen.{Pen}
use Rattle.lay_lines.specs.Content.Pens.{over, over_all}
use Rattle.lay_inlines.specs.declared.strokes.Stroke.{Stroke}
use Rattle.lay_units.specs.declared.length.Unit.{Unit}
use Rattle.lay_inlines.specs.Looks.{LookAs}
use Rattle.lay_inlines.proofs.Looks.{looks_behind}
use Rattle.lay_inlines.specs.Raises.{RaisesValue, raise_of, raises_after, raises_after_all}
use Rattle.lay_inlines.specs.Strokes.{parts_of, strokes, stroke_of}

pub parts_more : (ss : List Stretch) (k : ℕ) (d : Stretch) → k < length ss → parts_of (drop k ss) ≡ (get_or ss k d).parts ++ parts_of (drop (k + 1) ss)
parts_more ss k d lt = ap parts_of (drop_more ss k d lt)

pub over_all-append : (fr : Frame) (p : Pen) (xs ys : List Part) → over_all fr p (xs ++ ys) ≡ over_all fr (over_all fr p xs) ys
over_all-append fr p [] ys = refl
over_all-append fr p (x ∷ xs) ys = over_all-append fr (over fr p x) xs ys

pub strokes-append : (fr : Frame) (p : Pen) (r : RaisesValue) (xs ys : List Part)
    → strokes fr p r (xs ++ ys) ≡ strokes fr p r xs ++ strokes fr (over_all fr p xs) (raises_after_all r xs) ys
strokes-append fr p r [] ys = refl
strokes-append fr p r (x ∷ xs) ys =
    ap (λ (ss : List Stroke). stroke_of x (raise_of r x) p (over fr p x) ∷ ss) (strokes-append fr (over fr p x) (raises_after r x) xs ys)

pub raises-append : (r : RaisesValue) (xs ys : List Part) → raises_after_all r (xs ++ ys) ≡ raises_after_all (raises_after_all r xs) ys
raises-append r [] ys = refl
raises-append r (x ∷ xs) ys = raises-append (raises_after r x) xs ys

-- the strokes of some parts, and then those of the rest
pub draw_more : (fr : Frame) (p q : Pen) (r s : RaisesValue) (xs ys : List Part) (out new : List Stroke)
    → LookAs new (out ++ strokes fr p r xs) → q ≡ over_all fr p xs → s ≡ raises_after_all r xs
    → LookAs (new ++ strokes fr q s ys) (out ++ strokes fr p r (xs ++ ys))
draw_more fr p q r s xs ys out new l f g =
    subst (λ (zs : List Stroke). LookAs (new ++ strokes fr q s ys) zs)
    (append_assoc out (strokes fr p r xs) (strokes fr q s ys) ∙ (λ i. out ++ (strokes fr p r xs ++ strokes fr (f i) (g i) ys))
    ∙ ap (λ (ss : List Stroke). out ++ ss) (sym (strokes-append fr p r xs ys)))
    (looks_behind new (out ++ strokes fr p r xs) (strokes fr q s ys) l)

-- one stroke more, and then those of the rest
pub drawn_more : (fr : Frame) (p q : Pen) (r s : RaisesValue) (x : Part) (raise : Unit) (xs : List Part) (out new : List Stroke)
    → q ≡ over fr p x → raise ≡ raise_of r x → s ≡ raises_after r x → LookAs new (out ++ stroke_of x raise p q ∷ [])
    → LookAs (new ++ strokes fr q s xs) (out ++ strokes fr p r (x ∷ xs))
drawn_more fr p q r s x raise xs out new e f g l =
    subst (λ (ys : List Stroke). LookAs (new ++ strokes fr q s xs) ys)
    (append_assoc out (stroke_of x raise p q ∷ []) (strokes fr q s xs) ∙ (λ i. out ++ stroke_of x (f i) p (e i) ∷ strokes fr (e i) (g i) xs))
    (looks_behind new (out ++ stroke_of x raise p q ∷ []) (strokes fr q s xs) l)
