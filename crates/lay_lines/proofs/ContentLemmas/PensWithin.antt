-- How far the content of a line can come.
use Rattle.std.proofs.Common.{◌≡◌, ℕ, zero, suc, ◌+◌, ◌/◌, ◌<◌, ◌≤◌, ◌^◌, ℤ, pos, negsuc, ◌+ℤ◌, ◌*ℤ◌, ◌≤ℤ◌, ◌<ℤ◌, Bool, true, false, if◌then◌else◌, List, [], ◌∷◌, Option, Some, None, slice_get, arith}
use Rattle.std.proofs.Math.Nat.{div-mul-le_self, lt-div-mul-add, suc-mul}
use Rattle.std.proofs.Math.IntN.{*ℤ-zero, pos-*ℤ-pos, negsuc-*ℤ-pos}
use Rattle.std.proofs.lemmas.Int.{ints}
use Rattle.lay_units.specs.Units.{IsPosition}
use Rattle.lay_units.specs.TabStops.{next_stop}
use Rattle.lay_floats.specs.Within.{IsWithin}
use Rattle.lay_lines.specs.declared.content.content.Part.{Part}
use Rattle.lay_lines.specs.declared.content.content.Part.TheVariants.{Space, PreservedSpace, Tab, Linefeed, Text, Start, End, Atomic}
use Rattle.lay_lines.specs.declared.content.content.Stretch.{Stretch}
use Rattle.lay_lines.specs.declared.content.frame.Frame.{Frame}
use Rattle.lay_lines.specs.declared.content.pen.Pen.{Pen}
use Rattle.lay_lines.specs.Content.Pens.{went, moved, over, over_all, past_at, start_of, pen_to, PenFits, PensFit, ContentFits}
use Rattle.lay_lines.specs.Content.LineContents.{spread_of_part, spread_of_parts, spread_of}
use Rattle.lay_valign.specs.Near.{distance}
use Rattle.lay_lines.proofs.ContentLemmas.PenOrder.{times_more}
use Rattle.lay_lines.proofs.ContentLemmas.Totals.{part_of, total_to, total_next}

next_times : (q : ℤ) (s : ℕ) → (q +ℤ pos 1) *ℤ pos s ≡ (q *ℤ pos s) +ℤ pos s
next_times q zero = let a = *ℤ-zero (q +ℤ pos 1) in let b = *ℤ-zero q in omega (arith, ints, a, b)
next_times q (suc s) =
    let so_far = next_times q s in
    let a = times_more (q +ℤ pos 1) s in
    let b = times_more q s in
    omega (arith, ints, so_far, a, b)

-- the next tab stop is no further than the distance of stops
stop_near : (at : ℤ) (s : ℕ) → (at <ℤ next_stop (pos (suc s)) at) × (next_stop (pos (suc s)) at ≤ℤ (at +ℤ pos (suc s)))
stop_near (pos a) s =
    let q = a / suc s in
    let n = next_times (pos q) (suc s) in
    let t = pos-*ℤ-pos q (suc s) in
    let low = div-mul-le_self a (suc s) in
    let high = lt-div-mul-add {a = a} {b = suc s} (omega arith) in
    (omega (arith, ints, n, t, high), omega (arith, ints, n, t, low))
stop_near (negsuc a) s =
    let q = a / suc s in
    let n = next_times (negsuc q) (suc s) in
    let t = negsuc-*ℤ-pos q (suc s) in
    let m = suc-mul q (suc s) in
    let low = div-mul-le_self a (suc s) in
    let high = lt-div-mul-add {a = a} {b = suc s} (omega arith) in
    (omega (arith, ints, n, t, m, low), omega (arith, ints, n, t, m, high))

pub wider : (n m : ℕ) (v : ℤ) → n ≤ m → IsWithin (pos n) v → IsWithin (pos m) v
wider n m v le w = let a = w.0 in let b = w.1 in (omega (arith, ints, le, a), omega (arith, ints, le, b))

sum_within : (n : ℕ) (v w : ℤ) → IsWithin (pos n) v → IsWithin (pos (n + distance w)) (v +ℤ w)
sum_within n v (pos k) is = let a = is.0 in let b = is.1 in (omega (arith, ints, a), omega (arith, ints, b))
sum_within n v (negsuc k) is = let a = is.0 in let b = is.1 in (omega (arith, ints, a), omega (arith, ints, b))

stop_within : (tab : ℤ) (n : ℕ) (at : ℤ) → IsWithin (pos n) at → IsWithin (pos (n + distance tab)) (next_stop tab at)
stop_within (pos zero) n at is = wider n (n + 0) at (omega arith) is
stop_within (pos (suc s)) n at is =
    let near = stop_near at s in
    let low = near.0 in
    let high = near.1 in
    let a = is.0 in
    let b = is.1 in
    (omega (arith, ints, low, a), omega (arith, ints, high, b))
stop_within (negsuc s) n at is = wider n (n + suc s) at (omega arith) is

pub record PenWithin (n : ℕ) (p : Pen) : Type 0 where
  pub at : IsWithin (pos n) p.at.0
  pub visible : IsWithin (pos n) p.visible.0
  pub solid : IsWithin (pos n) p.solid.0

pen_wider : (n m : ℕ) (p : Pen) → n ≤ m → PenWithin n p → PenWithin m p
pen_wider n m p le is = record { at = wider n m _ le is.at; visible = wider n m _ le is.visible; solid = wider n m _ le is.solid }

went_within : (n : ℕ) (to : ℤ) → IsWithin (pos n) to → PenWithin n (went to)
went_within n to is = record { at = is; visible = is; solid = is }

moved_within : (n : ℕ) (p : Pen) (w : ℤ) (seen : Bool) → PenWithin n p → PenWithin (n + distance w) (moved p w seen)
moved_within n p w seen is = record { at = sum_within n _ w is.at; visible = sum_within n _ w is.visible; solid = sum_within n _ w is.solid }

either_within : (n : ℕ) (b : Bool) (p q : Pen) → PenWithin n p → PenWithin n q → PenWithin n (if b then p else q)
either_within n true p q a b = a
either_within n false p q a b = b

over_within : (fr : Frame) (n : ℕ) (p : Pen) (x : Part) → PenWithin n p → PenWithin (n + spread_of_part fr.tab.0 x) (over fr p x)
over_within fr n p (Space w) is =
    let far = n + distance w.width.0 in
    let le : n ≤ far = omega arith in
    either_within far p.started _ p
    (record { at = sum_within n _ w.width.0 is.at; visible = wider n far _ le is.visible; solid = wider n far _ le is.solid })
    (pen_wider n far p le is)
over_within fr n p (PreservedSpace w) is =
    let far = n + distance w.width.0 in
    let to = sum_within n p.at.0 w.width.0 is.at in
    record { at = to; visible = wider n far _ (omega arith) is.visible; solid = to }
over_within fr n p (Tab t) is = went_within _ _ (stop_within fr.tab.0 n p.at.0 is.at)
over_within fr n p Linefeed is = record { at = wider n (n + 0) _ (omega arith) is.at; visible = wider n (n + 0) _ (omega arith) is.visible; solid = wider n (n + 0) _ (omega arith) is.solid }
over_within fr n p (Text w) is = went_within _ _ (sum_within n p.at.0 w.width.0 is.at)
over_within fr n p (Start b) is = moved_within n p b.width.0 b.seen is
over_within fr n p (End b) is = moved_within n p b.width.0 b.seen is
over_within fr n p (Atomic a) is = went_within _ _ (sum_within n p.at.0 a.width.0 is.at)

pub all_within : (fr : Frame) (n : ℕ) (p : Pen) (xs : List Part) → PenWithin n p → PenWithin (n + spread_of_parts fr.tab.0 xs) (over_all fr p xs)
all_within fr n p [] is = pen_wider n (n + 0) p (omega arith) is
all_within fr n p (x ∷ xs) is =
    let one = spread_of_part fr.tab.0 x in
    pen_wider ((n + one) + spread_of_parts fr.tab.0 xs) (n + (one + spread_of_parts fr.tab.0 xs)) _ (omega arith) (all_within fr (n + one) (over fr p x) xs (over_within fr n p x is))

pub position : (n : ℕ) (v : ℤ) → n < 2 ^ 62 → IsWithin (pos n) v → IsPosition v
position n v less is = let a = is.0 in let b = is.1 in (omega (arith, ints, less, a), omega (arith, ints, less, b))

pen_fits : (n : ℕ) (p : Pen) → n < 2 ^ 62 → PenWithin n p → PenFits p
pen_fits n p less is = record { at = position n _ less is.at; visible = position n _ less is.visible; solid = position n _ less is.solid }

pens_fit : (fr : Frame) (n : ℕ) (p : Pen) (xs : List Part) → (n + spread_of_parts fr.tab.0 xs) < 2 ^ 62 → PenWithin n p → PensFit fr p xs
pens_fit fr n p [] less is = pen_fits n p (omega (arith, less)) is
pens_fit fr n p (x ∷ xs) less is =
    let one = spread_of_part fr.tab.0 x in
    (pen_fits n p (omega (arith, less)) is, pens_fit fr (n + one) (over fr p x) xs (omega (arith, less)) (over_within fr n p x is))

-- how far the first stretches spread
abbrev pub spread_to : Frame → List Stretch → ℕ → ℕ
spread_to fr ss k = total_to (λ (s : Stretch). spread_of_parts fr.tab.0 s.parts) ss k

past_within : (fr : Frame) (n : ℕ) (p : Pen) (o : Option Stretch) → PenWithin n p → PenWithin (n + part_of (λ (s : Stretch). spread_of_parts fr.tab.0 s.parts) o) (past_at fr p o)
past_within fr n p None is = pen_wider n (n + 0) p (omega arith) is
past_within fr n p (Some s) is = all_within fr n p s.parts is

pub to_within : (fr : Frame) (a : ℤ) (ss : List Stretch) (n k : ℕ) → IsWithin (pos n) (start_of fr a) → PenWithin (n + spread_to fr ss k) (pen_to fr a ss k)
to_within fr a ss n zero is = let w = wider n (n + 0) _ (omega arith) is in record { at = w; visible = w; solid = w }
to_within fr a ss n (suc k) is =
    let so_far = n + spread_to fr ss k in
    let more = part_of (λ (s : Stretch). spread_of_parts fr.tab.0 s.parts) (slice_get ss k) in
    pen_wider (so_far + more) (n + (spread_to fr ss k + more)) _ (omega arith) (past_within fr so_far (pen_to fr a ss k) (slice_get ss k) (to_within fr a ss n k is))

pub content_fits : (fr : Frame) (a : ℤ) (ss : List Stretch) (n : ℕ) → (n + spread_of fr.tab.0 ss) < 2 ^ 62 → IsWithin (pos n) (start_of fr a) → ContentFits fr a ss
content_fits fr a ss n less is = record {
  blank_fits = pen_fits n _ (omega (arith, less)) (record { at = is; visible = is; solid = is });
  stretches = λ k s at.
      (let most = total_next (λ (s : Stretch). spread_of_parts fr.tab.0 s.parts) ss k s at in
      pens_fit fr (n + spread_to fr ss k) (pen_to fr a ss k) s.parts (omega (arith, less, most)) (to_within fr a ss n k is));
}
