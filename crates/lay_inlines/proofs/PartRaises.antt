-- Raises, as the shifts of the parts of a line.
use Rattle.std.proofs.Common.{◌≡◌, ◌∙◌, ℕ, suc, ◌-◌, ◌<◌, ◌≤◌, List, [], ◌∷◌, ◌++◌, length, take, drop, map, refl, sym, ap, arith, add-zero}
use Rattle.std.proofs.lemmas.List.{append-nil, append_assoc, drop-drop, get_or-drop, length-append, length-drop, length-map, map-append, take-map}
use Rattle.lay_units.specs.declared.length.Unit.{Unit}
use Rattle.lay_units.specs.Lengths.{no_length}
use Rattle.lay_valign.specs.declared.parts.Shift.{Shift}
use Rattle.lay_lines.specs.declared.content.content.InlineStart.{InlineStart}
use Rattle.lay_lines.specs.declared.content.content.Part.{Part}
use Rattle.lay_lines.specs.declared.content.content.Part.TheVariants.{Space, PreservedSpace, Tab, Linefeed, Text, Start, End, Atomic}
use Rattle.lay_lines.specs.declared.content.frame.Extent.{Extent}
use Rattle.lay_lines.specs.Content.Extents.{LineParts, Reading, closed, innermost, opened, opened_all, part_by, read, read_all, reading_of, stood, strut_alone}
use Rattle.lay_inlines.specs.Laws.{RaisesAreShiftsOfParts, raises_in}
use Rattle.lay_inlines.specs.Raises.{RaisesValue, raise_at, one_closed, one_opened, one_passed, raises_after, raises_after_all}

next_raise : (shifts : List Unit) (n : ℕ) → raise_at (drop n shifts) 0 ≡ raise_at shifts n
next_raise shifts n = get_or-drop n shifts 0 no_length ∙ ap (λ (k : ℕ). raise_at shifts k) (add-zero n)

-- one part more
still_coming : (shifts : List Unit) (l : LineParts) (e : Extent) (s : Shift) → drop 1 (raises_in shifts l).coming ≡ (raises_in shifts (stood l e s)).coming
still_coming shifts l e s =
    drop-drop 1 (length l.parts) shifts ∙ ap (λ (k : ℕ). drop k shifts) (sym (length-append l.parts (part_by e s (innermost l.places) ∷ [])))

passed_is : (shifts : List Unit) (l : LineParts) (e : Extent) (s : Shift) → one_passed (raises_in shifts l) ≡ raises_in shifts (stood l e s)
passed_is shifts l e s = λ i. record { open_boxes = (raises_in shifts l).open_boxes; coming = still_coming shifts l e s i }

opened_is : (shifts : List Unit) (l : LineParts) (e : Extent) (s : Shift) → one_opened (raises_in shifts l) ≡ raises_in shifts (opened l e s)
opened_is shifts l e s =
    let boxes : (one_opened (raises_in shifts l)).open_boxes ≡ (raises_in shifts (opened l e s)).open_boxes
    = ap (λ (u : Unit). (raises_in shifts l).open_boxes ++ u ∷ []) (next_raise shifts (length l.parts))
    ∙ sym (map-append (raise_at shifts) l.places (length l.parts ∷ [])) in
    λ i. record { open_boxes = boxes i; coming = still_coming shifts l e s i }

closed_is : (shifts : List Unit) (l : LineParts) → one_closed (raises_in shifts l) ≡ raises_in shifts (closed l)
closed_is shifts l =
    let boxes : (one_closed (raises_in shifts l)).open_boxes ≡ (raises_in shifts (closed l)).open_boxes
    = ap (λ (k : ℕ). take (k - 1) (map (raise_at shifts) l.places)) (length-map l.places (raise_at shifts))
    ∙ take-map (raise_at shifts) (length l.places - 1) l.places in
    λ i. record { open_boxes = boxes i; coming = (raises_in shifts l).coming }

after_one : (shifts : List Unit) (r : Reading) (x : Part) → raises_after (raises_in shifts r.line) x ≡ raises_in shifts (read r x).line
after_one shifts r (Space w) = refl
after_one shifts r (PreservedSpace w) = refl
after_one shifts r (Tab t) = refl
after_one shifts r Linefeed = refl
after_one shifts r (Text w) = refl
after_one shifts r (Start b) = opened_is shifts r.line b.extent b.shift
after_one shifts r (End b) = closed_is shifts r.line
after_one shifts r (Atomic a) = passed_is shifts r.line a.extent a.shift

after_all : (shifts : List Unit) (r : Reading) (xs : List Part) → raises_after_all (raises_in shifts r.line) xs ≡ raises_in shifts (read_all r xs).line
after_all shifts r [] = refl
after_all shifts r (x ∷ xs) = ap (λ (q : RaisesValue). raises_after_all q xs) (after_one shifts r x) ∙ after_all shifts (read r x) xs

-- the first of what is to come is open
abbrev with_open : ℕ → RaisesValue → RaisesValue
with_open n r = record { open_boxes = r.open_boxes ++ take n r.coming; coming = drop n r.coming }

first_open : (n : ℕ) (boxes coming : List Unit) → 0 < length coming
    → with_open (suc n) (record { open_boxes = boxes; coming = coming }) ≡ with_open n (one_opened (record { open_boxes = boxes; coming = coming }))
first_open n boxes [] some = absurd (omega (arith, some))
first_open n boxes (u ∷ us) some = λ i. record { open_boxes = sym (append_assoc boxes (u ∷ []) (take n us)) i; coming = drop n us }

all_opened : (shifts : List Unit) (l : LineParts) (bs : List InlineStart) → length bs ≤ length (drop (length l.parts) shifts)
    → with_open (length bs) (raises_in shifts l) ≡ raises_in shifts (opened_all l bs)
all_opened shifts l [] le = λ i. record { open_boxes = append-nil (raises_in shifts l).open_boxes i; coming = (raises_in shifts l).coming }
all_opened shifts l (b ∷ bs) le =
    let now = length-drop (length l.parts) shifts in
    let more = length-append l.parts (part_by b.extent b.shift (innermost l.places) ∷ []) in
    let later = length-drop (length (opened l b.extent b.shift).parts) shifts in
    first_open (length bs) (raises_in shifts l).open_boxes (raises_in shifts l).coming (omega (arith, le))
    ∙ ap (λ (q : RaisesValue). with_open (length bs) q) (opened_is shifts l b.extent b.shift)
    ∙ all_opened shifts (opened l b.extent b.shift) bs (omega (arith, le, now, more, later))

pub raises_lem : RaisesAreShiftsOfParts
raises_lem shifts e bs xs le =
    let boxes = length-drop 1 shifts in
    ap (λ (q : RaisesValue). raises_after_all q xs) (all_opened shifts (strut_alone e) bs (omega (arith, le, boxes)))
    ∙ after_all shifts (reading_of bs (opened_all (strut_alone e) bs)) xs
