-- How far the content of one line comes.
use Rattle.std.proofs.Common.{◌≡◌, ℕ, zero, suc, ◌+◌, ◌≤◌, ◌^◌, ℤ, pos, List, [], ◌∷◌, ◌++◌, take, drop, refl, sym, subst, arith}
use Rattle.std.proofs.lemmas.Int.{ints}
use Rattle.lay_units.specs.Units.{IsUsed}
use Rattle.lay_units.specs.declared.length.Unit.{Unit}
use Rattle.lay_floats.specs.Within.{IsWithin}
use Rattle.lay_lines.specs.declared.content.content.Part.{Part}
use Rattle.lay_lines.specs.declared.content.content.Stretch.{Stretch}
use Rattle.lay_lines.specs.declared.content.frame.Frame.{Frame}
use Rattle.lay_lines.specs.declared.content.pen.Pen.{Pen}
use Rattle.lay_lines.specs.Content.LineContents.{spread_of_part, spread_of_parts, spread_of}
use Rattle.lay_lines.specs.Content.Pens.{start_of, blank, over}
use Rattle.lay_lines.proofs.ContentLemmas.PensWithin.{all_within, wider, PenWithin as IsNear}
use Rattle.lay_inlines.specs.Bounds.{IsPlace, PenWithin, PensWithin}
use Rattle.lay_inlines.specs.Strokes.{parts_of}

place_near : (n : ℕ) (v : ℤ) → n ≤ 2 ^ 61 + 2 ^ 59 → IsWithin (pos n) v → IsPlace v
place_near n v le is = wider n (2 ^ 61 + 2 ^ 59) v le is

pen_near : (n : ℕ) (p : Pen) → n ≤ 2 ^ 61 + 2 ^ 59 → IsNear n p → PenWithin p
pen_near n p le is = record { at = place_near n p.at.0 le is.at; visible = place_near n p.visible.0 le is.visible; solid = place_near n p.solid.0 le is.solid }

pens_near : (fr : Frame) (n : ℕ) (p : Pen) (xs : List Part) → (n + spread_of_parts fr.tab.0 xs) ≤ 2 ^ 61 + 2 ^ 59 → IsNear n p → PensWithin fr p xs
pens_near fr n p [] le is = pen_near n p (omega (arith, le)) is
pens_near fr n p (x ∷ xs) le is =
    let one = spread_of_part fr.tab.0 x in
    (pen_near n p (omega (arith, le)) is, pens_near fr (n + (one + 0)) (over fr p x) xs (omega (arith, le)) (all_within fr n p (x ∷ []) is))

spread-append : (tab : ℤ) (xs ys : List Part) → spread_of_parts tab (xs ++ ys) ≡ spread_of_parts tab xs + spread_of_parts tab ys
spread-append tab [] ys = omega arith
spread-append tab (x ∷ xs) ys = let e = spread-append tab xs ys in omega (arith, e)

spread_parts : (tab : ℤ) (ss : List Stretch) → spread_of_parts tab (parts_of ss) ≡ spread_of tab ss
spread_parts tab [] = refl
spread_parts tab (s ∷ ss) = let e = spread-append tab s.parts (parts_of ss) in let f = spread_parts tab ss in omega (arith, e, f)

take_less : (tab : ℤ) (k : ℕ) (ss : List Stretch) → spread_of tab (take k ss) ≤ spread_of tab ss
take_less tab zero ss = omega arith
take_less tab (suc k) [] = omega arith
take_less tab (suc k) (s ∷ ss) = let e = take_less tab k ss in omega (arith, e)

drop_less : (tab : ℤ) (k : ℕ) (ss : List Stretch) → spread_of tab (drop k ss) ≤ spread_of tab ss
drop_less tab zero ss = omega arith
drop_less tab (suc k) [] = omega arith
drop_less tab (suc k) (s ∷ ss) = let e = drop_less tab k ss in omega (arith, e)

-- that of the first stretches, in a room within bounds
pens_within : (fr : Frame) (a : ℤ) (k : ℕ) (ss : List Stretch) → IsWithin (pos (2 ^ 50)) fr.left.0 → IsWithin (pos (2 ^ 61)) a → IsUsed fr.indent.0 → spread_of fr.tab.0 ss ≤ 2 ^ 58
    → PensWithin fr (blank (start_of fr a)) (parts_of (take k ss))
pens_within fr a k ss left room indent spread =
    let start : IsWithin (pos (2 ^ 61 + 2 ^ 51)) (start_of fr a) = (omega (arith, ints, left.0, left.1, room.0, room.1, indent.0, indent.1), omega (arith, ints, left.0, left.1, room.0, room.1, indent.0, indent.1)) in
    let e = spread_parts fr.tab.0 (take k ss) in
    let f = take_less fr.tab.0 k ss in
    pens_near fr (2 ^ 61 + 2 ^ 51) (blank (start_of fr a)) (parts_of (take k ss)) (omega (arith, e, f, spread)) (record { at = start; visible = start; solid = start })

pub pens_of : (fr : Frame) (left tab : Unit) (a : ℤ) (k : ℕ) (ss taken : List Stretch) → fr.left ≡ left → fr.tab ≡ tab → taken ≡ take k ss → IsWithin (pos (2 ^ 50)) left.0 → IsWithin (pos (2 ^ 61)) a → IsUsed fr.indent.0
    → spread_of tab.0 ss ≤ 2 ^ 58 → PensWithin fr (blank (start_of fr a)) (parts_of taken)
pens_of fr left tab a k ss taken same stop front edge room indent spread =
    subst (λ (ts : List Stretch). PensWithin fr (blank (start_of fr a)) (parts_of ts)) (sym front)
    (pens_within fr a k ss (subst (λ (u : Unit). IsWithin (pos (2 ^ 50)) u.0) (sym same) edge) room indent
    (subst (λ (u : Unit). spread_of u.0 ss ≤ 2 ^ 58) (sym stop) spread))

pub rest_spread : (tab : ℤ) (k : ℕ) (ss rest : List Stretch) → rest ≡ drop k ss → spread_of tab ss ≤ 2 ^ 58 → spread_of tab rest ≤ 2 ^ 58
rest_spread tab k ss rest back le =
    let less = drop_less tab k ss in
    subst (λ (ts : List Stretch). spread_of tab ts ≤ 2 ^ 58) (sym back) (omega (arith, less, le))
