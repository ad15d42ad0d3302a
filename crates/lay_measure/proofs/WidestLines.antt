-- The widest line, a part further.
use Rattle.std.proofs.Common.{◌≡◌, ℕ, ◌+◌, ◌-◌, ◌<◌, ◌≤◌, ℤ, pos, ◌≤ℤ◌, true, false, List, [], ◌∷◌, ◌++◌, length, drop, take, get_or, slice_range, refl, sym, ap, ◌∙◌, arith, length-drop}
use Rattle.std.proofs.lemmas.Int.{ints, clamps}
use Rattle.std.proofs.lemmas.List.{drop_more, take_more, get_or-drop}
use Rattle.std.specs.Int.{int_max}
use Rattle.lay_units.specs.declared.length.Unit.{Unit as Length}
use Rattle.lay_units.specs.Lengths.{no_length}
use Rattle.lay_measure.specs.LineWidths.{ends_line, line_width, lines_of, widest}
use Rattle.lay_measure.specs.WidestLine.{widest_with}
use Rattle.lay_measure.specs.declared.inline_widths.Lines.{Lines}
use Rattle.lay_measure.specs.declared.line_parts.LinePart.{LinePart}
use Rattle.lay_measure.specs.declared.pen.Breaking.{Breaking}

max_assoc : (a b c : ℤ) → int_max (int_max a b) c ≡ int_max a (int_max b c)
max_assoc a b c = omega (arith, ints, clamps)

max_from_zero : (a v : ℤ) → pos 0 ≤ℤ v → pos 0 ≤ℤ int_max a v
max_from_zero a v h = omega (arith, ints, clamps, h)

max_of_zero : (v : ℤ) → pos 0 ≤ℤ v → int_max (pos 0) v ≡ v
max_of_zero v h = omega (arith, ints, clamps, h)

pub from_zero : (how : Breaking) (tab : ℤ) (start : Length) (ls : List (List LinePart)) → pos 0 ≤ℤ widest how tab start ls
from_zero how tab start [] = omega (arith, ints)
from_zero how tab start (l ∷ ls) = max_from_zero (line_width how tab start l) (widest how tab no_length ls) (from_zero how tab no_length ls)

-- no line is narrower than 0
pub zero_first : (how : Breaking) (tab : ℤ) (start : Length) (ls : List (List LinePart)) → int_max (pos 0) (widest how tab start ls) ≡ widest how tab start ls
zero_first how tab start ls = max_of_zero (widest how tab start ls) (from_zero how tab start ls)

slice_more : {X : Type 0} (xs : List X) (from k : ℕ) (d : X) → from ≤ k → k < length xs → slice_range xs from (k + 1) ≡ slice_range xs from k ++ get_or xs k d ∷ []
slice_more xs from k d le lt =
    let len = length-drop from xs in
    let more = take_more (drop from xs) (k - from) d (omega (arith, len, le, lt)) in
    let one : k + 1 - from ≡ k - from + 1 = omega (arith, le) in
    let at : from + (k - from) ≡ k = omega (arith, le) in
    let here = get_or-drop from xs (k - from) d ∙ ap (λ n. get_or xs n d) at in
    ap (λ n. take n (drop from xs)) one ∙ more ∙ ap (λ x. take (k - from) (drop from xs) ++ x ∷ []) here

slice_none : {X : Type 0} (xs : List X) (k : ℕ) → slice_range xs k k ≡ []
slice_none xs k = let none : k - k ≡ 0 = omega (arith) in ap (λ n. take n (drop k xs)) none

-- the line goes on with this part
pub goes_on : (how : Breaking) (tab : ℤ) (parts : List LinePart) (l : Lines) (k : ℕ) (d : LinePart) → l.from ≤ k → k < length parts → ends_line how (get_or parts k d) ≡ false → widest_with how tab parts l (k + 1) ≡ widest_with how tab parts l k
goes_on how tab parts l k d le lt further =
    let x = get_or parts k d in
    let line = slice_range parts l.from k in
    let rest = drop (k + 1) parts in
    let step : lines_of how line (x ∷ rest) ≡ lines_of how (line ++ x ∷ []) rest = rw further refl in
    let all = ap (λ s. lines_of how s rest) (slice_more parts l.from k d le lt) ∙ sym step ∙ ap (λ s. lines_of how line s) (sym (drop_more parts k d lt)) in
    ap (λ ls. int_max l.widest.0 (widest how tab l.start ls)) all

-- the line ends before it
pub ends_here : (how : Breaking) (tab : ℤ) (parts : List LinePart) (l : Lines) (k : ℕ) (d : LinePart) → k < length parts → ends_line how (get_or parts k d) ≡ true → int_max (int_max l.widest.0 (line_width how tab l.start (slice_range parts l.from k))) (widest how tab no_length (lines_of how (slice_range parts (k + 1) (k + 1)) (drop (k + 1) parts))) ≡ widest_with how tab parts l k
ends_here how tab parts l k d lt ends =
    let x = get_or parts k d in
    let line = slice_range parts l.from k in
    let rest = drop (k + 1) parts in
    let step : lines_of how line (x ∷ rest) ≡ line ∷ lines_of how [] rest = rw ends refl in
    let here = ap (λ s. lines_of how line s) (drop_more parts k d lt) ∙ step in
    let next = ap (λ s. lines_of how s rest) (slice_none parts (k + 1)) in
    let width = line_width how tab l.start line in
    ap (λ ls. int_max (int_max l.widest.0 width) (widest how tab no_length ls)) next
    ∙ max_assoc l.widest.0 width (widest how tab no_length (lines_of how [] rest))
    ∙ sym (ap (λ ls. int_max l.widest.0 (widest how tab l.start ls)) here)
