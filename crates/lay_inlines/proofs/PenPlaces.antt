-- Pens that are within bounds.
use Rattle.std.proofs.Common.{ℕ, ◌+◌, ◌<◌, ℤ, List, [], ◌∷◌, ◌++◌, length, drop, get_or, subst, arith}
use Rattle.std.proofs.lemmas.Int.{ints}
use Rattle.std.proofs.lemmas.List.{drop_more}
use Rattle.lay_units.specs.Units.{IsPosition}
use Rattle.lay_lines.specs.declared.content.content.Part.{Part}
use Rattle.lay_lines.specs.declared.content.frame.Frame.{Frame}
use Rattle.lay_lines.specs.declared.content.pen.Pen.{Pen}
use Rattle.lay_lines.specs.Content.Pens.{over, over_all, PenFits}
use Rattle.lay_inlines.specs.Bounds.{IsPlace, PenWithin, PensWithin}

place_fits : (v : ℤ) → IsPlace v → IsPosition v
place_fits v is = let a = is.0 in let b = is.1 in (omega (arith, ints, a), omega (arith, ints, b))

pub pen_fits : (p : Pen) → PenWithin p → PenFits p
pen_fits p is = record { at = place_fits p.at.0 is.at; visible = place_fits p.visible.0 is.visible; solid = place_fits p.solid.0 is.solid }

pub first_within : (fr : Frame) (p : Pen) (xs : List Part) → PensWithin fr p xs → PenWithin p
first_within fr p [] is = is
first_within fr p (x ∷ xs) is = is.0

pub last_within : (fr : Frame) (p : Pen) (xs : List Part) → PensWithin fr p xs → PenWithin (over_all fr p xs)
last_within fr p [] is = is
last_within fr p (x ∷ xs) is = last_within fr (over fr p x) xs is.1

-- the content before some, and that content
pub front_within : (fr : Frame) (p : Pen) (xs ys : List Part) → PensWithin fr p (xs ++ ys) → PensWithin fr p xs
front_within fr p [] ys is = first_within fr p ys is
front_within fr p (x ∷ xs) ys is = (is.0, front_within fr (over fr p x) xs ys is.1)

pub back_within : (fr : Frame) (p : Pen) (xs ys : List Part) → PensWithin fr p (xs ++ ys) → PensWithin fr (over_all fr p xs) ys
back_within fr p [] ys is = is
back_within fr p (x ∷ xs) ys is = back_within fr (over fr p x) xs ys is.1

-- the pen after one part more
pub next_within : (fr : Frame) (p : Pen) (xs : List Part) (k : ℕ) (d : Part) → k < length xs → PensWithin fr p (drop k xs) → PensWithin fr (over fr p (get_or xs k d)) (drop (k + 1) xs)
next_within fr p xs k d lt is = (subst (λ (ys : List Part). PensWithin fr p ys) (drop_more xs k d lt) is).1

pub over_fits : (fr : Frame) (p : Pen) (xs : List Part) (k : ℕ) (d : Part) → k < length xs → PensWithin fr p (drop k xs) → PenFits (over fr p (get_or xs k d))
over_fits fr p xs k d lt is = pen_fits _ (first_within fr (over fr p (get_or xs k d)) (drop (k + 1) xs) (next_within fr p xs k d lt is))
