-- How far content comes, beside the width of the widest of its lines.
use Rattle.std.proofs.Common.{◌≡◌, ℕ, zero, suc, ℤ, pos, ◌+ℤ◌, ◌≤ℤ◌, Bool, true, false, List}
use Rattle.std.proofs.Common.{[], ◌∷◌, ◌++◌, All, drop, slice_get, Some, IsTrue, refl, ap, ◌∙◌, arith}
use Rattle.std.specs.Int.{int_max}
use Rattle.std.proofs.lemmas.Int.{ints, clamps}
use Rattle.std.proofs.lemmas.List.Elements.{All-head, All-tail}
use Rattle.std.proofs.lemmas.Option.{same_Some, slice_get_within}
use Rattle.lay_units.specs.declared.length.Unit.{Unit as Length}
use Rattle.lay_units.specs.Lengths.{no_length}
use Rattle.lay_space.specs.declared.segment.Segment.{Segment}
use Rattle.lay_lines.specs.declared.content.content.Stretch.{Stretch}
use Rattle.lay_lines.specs.declared.content.frame.Frame.{Frame}
use Rattle.lay_lines.specs.declared.content.pen.Pen.{Pen as LinePen}
use Rattle.lay_lines.specs.Content.Pens.{over_all as over_line, past, past_at, pen_to, blank, start_of}
use Rattle.lay_line_measures.specs.declared.container.Container.{Container}
use Rattle.lay_line_measures.specs.BoxMeasuresValue.{BoxMeasuresValue}
use Rattle.lay_line_measures.specs.Stretches.{parts_of as line_parts_of, stretches_of}
use Rattle.lay_measure.specs.declared.line_parts.LinePart.{LinePart}
use Rattle.lay_measure.specs.declared.line_parts.LinePart.TheVariants as part
use Rattle.lay_measure.specs.declared.pen.Breaking.{Breaking}
use Rattle.lay_measure.specs.declared.pen.Breaking.TheVariants as breaking
use Rattle.lay_measure.specs.declared.pen.Pen.{Pen}
use Rattle.lay_measure.specs.LineParts.{line_parts, parts_of}
use Rattle.lay_measure.specs.LineWidths.{begun, float_sum, line_width, lines_of, pen_after, widest_float}
use Rattle.lay_measure.specs.MeasureInValue.{MeasureInValue}
use Rattle.lay_flow_boxes.proofs.Cited.{from_zero}
use Rattle.lay_flow_boxes.specs.Words.LinesAlone.{AreAsMeasured, HaveNoFloats, IsAsMeasured, IsNoFloat}
use Rattle.lay_flow_boxes.specs.Words.LinesAlone.{IsNotNegative, NoneIsNegative, measuring_pen}
use Rattle.lay_flow_boxes.proofs.WordsLemmas.GrowingPens.{parts_grow}
use Rattle.lay_flow_boxes.proofs.WordsLemmas.MeasuredContent.{AreContent, content_sum, head_free, head_measured, items_content}
use Rattle.lay_flow_boxes.proofs.WordsLemmas.MeasuredContent.{line_ends, line_goes_on, sum_both, tail_free, tail_measured, width_with}
use Rattle.lay_flow_boxes.proofs.WordsLemmas.MeasuredPens.{lines_come_as_far_lem, measured_both}

-- greater numbers
pub no_more : (a b c : ℤ) → a ≤ℤ b → b ≤ℤ c → a ≤ℤ c
no_more a b c p q = omega (arith, ints, p, q)

below_first : (v a b c : ℤ) → v ≤ℤ a → c ≡ int_max a b → v ≤ℤ c
below_first v a b c h e = omega (arith, ints, clamps, h, e)

below_second : (v a b c : ℤ) → v ≤ℤ b → c ≡ int_max a b → v ≤ℤ c
below_second v a b c h e = omega (arith, ints, clamps, h, e)

below_same : (v a b : ℤ) → v ≤ℤ a → b ≡ a → v ≤ℤ b
below_same v a b h e = omega (arith, ints, h, e)

equal_below : (v a : ℤ) → a ≡ v → v ≤ℤ a
equal_below v a e = omega (arith, ints, e)

at_least_zero : (v : ℤ) → int_max (pos 0) v ≡ v → pos 0 ≤ℤ v
at_least_zero v e = omega (arith, ints, clamps, e)

sum_of_none : (a b : ℤ) → b ≡ pos 0 → a +ℤ b ≡ a
sum_of_none a b e = omega (arith, ints, e)

both_none : (a b : ℤ) → a ≡ pos 0 → b ≡ pos 0 → a +ℤ b ≡ pos 0
both_none a b d e = omega (arith, ints, d, e)

-- after the first n of these, from a pen
abbrev pub pen_from : Frame → LinePen → List Stretch → ℕ → LinePen
pen_from fr p ss zero = p
pen_from fr p [] (suc k) = p
pen_from fr p (s ∷ ss) (suc k) = pen_from fr (past fr p s) ss k

one_further : (fr : Frame) (p : LinePen) (ss : List Stretch) (k : ℕ)
    → past_at fr (pen_from fr p ss k) (slice_get ss k) ≡ pen_from fr p ss (suc k)
one_further fr p [] zero = refl
one_further fr p [] (suc k) = refl
one_further fr p (s ∷ ss) zero = refl
one_further fr p (s ∷ ss) (suc k) = one_further fr (past fr p s) ss k

pub pen_is_from : (fr : Frame) (a : ℤ) (ss : List Stretch) (k : ℕ) → pen_to fr a ss k ≡ pen_from fr (blank (start_of fr a)) ss k
pen_is_from fr a ss zero = refl
pen_is_from fr a ss (suc k) =
    ap (λ (p : LinePen). past_at fr p (slice_get ss k)) (pen_is_from fr a ss k) ∙ one_further fr (blank (start_of fr a)) ss k

-- none of the first n has to end its line, but for the last
abbrev pub IsUnbroken : List Segment → ℕ → Type 0
IsUnbroken ss zero = Unit {0}
IsUnbroken [] (suc k) = Unit {0}
IsUnbroken (s ∷ ss) (suc zero) = Unit {0}
IsUnbroken (s ∷ ss) (suc (suc k)) = (s.forced ≡ false) × IsUnbroken ss (suc k)

-- preferred widths have this of a line, whose pen is here
pub record IsLine (tab : ℤ) (start : Length) (line : List LinePart) (p : LinePen) : Type 0 where
  pub comes : pen_after breaking.WhereForced tab (begun start) line ≡ measuring_pen p
  pub no_floats : float_sum line ≡ pos 0
  pub order : p.visible.0 ≤ℤ p.at.0

line_shows : (tab : ℤ) (start : Length) (line : List LinePart) (p : LinePen) → IsLine tab start line p
    → p.visible.0 ≤ℤ line_width breaking.WhereForced tab start line
line_shows tab start line p is =
    equal_below p.visible.0 _
    (sum_of_none (pen_after breaking.WhereForced tab (begun start) line).visible.0 (float_sum line) is.no_floats
    ∙ ap (λ (q : Pen). q.visible.0) is.comes)

-- a line with one segment more
line_more : (m : BoxMeasuresValue) (by : MeasureInValue) (fr : Frame) (start : Length) (line : List LinePart) (p : LinePen) (s : Segment)
    → All (IsAsMeasured breaking.WhereForced m by) s.items → All IsNoFloat s.items
    → All IsNotNegative (line_parts_of m s.items) → IsLine fr.tab.0 start line p
    → IsLine fr.tab.0 start (line ++ parts_of by s.items) (over_line fr p (line_parts_of m s.items))
line_more m by fr start line p s are free more is = record {
  comes =
      measured_both breaking.WhereForced fr.tab.0 (begun start) line (parts_of by s.items)
      ∙ ap (λ (q : Pen). pen_after breaking.WhereForced fr.tab.0 q (parts_of by s.items)) is.comes
      ∙ lines_come_as_far_lem breaking.WhereForced m by fr p s.items are;
  no_floats =
      sum_both line (parts_of by s.items)
      ∙ both_none (float_sum line) (float_sum (parts_of by s.items)) is.no_floats
      (content_sum (parts_of by s.items) (items_content breaking.WhereForced m by s.items are free));
  order = (parts_grow fr p (line_parts_of m s.items) more is.order).order;
}

line_past : (tab : ℤ) (start : Length) (line : List LinePart) (p : LinePen) (forced : Bool) → IsLine tab start line p
    → IsLine tab start (line ++ part.Break forced ∷ []) p
line_past tab start line p forced is = record {
  comes = measured_both breaking.WhereForced tab (begun start) line (part.Break forced ∷ []) ∙ is.comes;
  no_floats = sum_both line (part.Break forced ∷ []) ∙ both_none (float_sum line) (pos 0) is.no_floats refl;
  order = is.order;
}

-- what is shown after a segment is no wider, where the rest isn't
shown_after
    : (m : BoxMeasuresValue) (by : MeasureInValue) (fr : Frame) (start : Length) (line : List LinePart)
    (p : LinePen) (s : Segment) (ss : List Segment)
    → All (IsAsMeasured breaking.WhereForced m by) s.items → All IsNoFloat s.items
    → All IsNotNegative (line_parts_of m s.items) → IsLine fr.tab.0 start line p
    → ((l : List LinePart) → IsLine fr.tab.0 start l (over_line fr p (line_parts_of m s.items))
    → (over_line fr p (line_parts_of m s.items)).visible.0 ≤ℤ width_with breaking.WhereForced fr.tab.0 start l by ss)
    → (over_line fr p (line_parts_of m s.items)).visible.0 ≤ℤ width_with breaking.WhereForced fr.tab.0 start line by (s ∷ ss)
shown_after m by fr start line p s ss are free more is rest = at s.forced refl
  where
    q : LinePen
    q = over_line fr p (line_parts_of m s.items)

    now : IsLine fr.tab.0 start (line ++ parts_of by s.items) (over_line fr p (line_parts_of m s.items))
    now = line_more m by fr start line p s are free more is

    content : AreContent (parts_of by s.items)
    content = items_content breaking.WhereForced m by s.items are free

    at : (b : Bool) → s.forced ≡ b
        → (over_line fr p (line_parts_of m s.items)).visible.0 ≤ℤ width_with breaking.WhereForced fr.tab.0 start line by (s ∷ ss)
    at true e =
        below_first _ _ _ _ (line_shows fr.tab.0 start (line ++ parts_of by s.items) (over_line fr p (line_parts_of m s.items)) now)
        (line_ends breaking.WhereForced fr.tab.0 start line by s ss content e)
    at false e =
        below_same _ _ _ (rest ((line ++ parts_of by s.items) ++ part.Break s.forced ∷ []) (line_past fr.tab.0 start _ _ s.forced now))
        (line_goes_on breaking.WhereForced fr.tab.0 start line by s ss content e)

-- Content that nothing has to break, whose line has this already, reaches no further than the widest line.
pub shown_within
    : (m : BoxMeasuresValue) (by : MeasureInValue) (c : Container) (begins : Bool) (fr : Frame)
    (start : Length) (line : List LinePart) (p : LinePen)
    (ss : List Segment) (n : ℕ) → AreAsMeasured breaking.WhereForced m by ss → HaveNoFloats ss → NoneIsNegative (stretches_of m c begins ss)
    → IsLine fr.tab.0 start line p → IsUnbroken ss n
    → (pen_from fr p (stretches_of m c begins ss) n).visible.0 ≤ℤ width_with breaking.WhereForced fr.tab.0 start line by ss
shown_within m by c begins fr start line p [] zero are free more is whole =
    below_first _ _ (pos 0) _ (line_shows fr.tab.0 start line p is) refl
shown_within m by c begins fr start line p [] (suc k) are free more is whole =
    below_first _ _ (pos 0) _ (line_shows fr.tab.0 start line p is) refl
shown_within m by c begins fr start line p (s ∷ ss) zero are free more is whole =
    let none = head_free s ss free in
    let same = head_measured breaking.WhereForced m by s ss are in
    let widths = All-head (λ (t : Stretch). All IsNotNegative t.parts) _ (stretches_of m c s.forced ss) more in
    no_more _ _ _ (parts_grow fr p (line_parts_of m s.items) widths is.order).visible
    (shown_after m by fr start line p s ss same none widths is
    (λ l here. shown_within m
    by c s.forced fr start l (over_line fr p (line_parts_of m s.items)) ss zero (tail_measured breaking.WhereForced m by s ss are)
    (tail_free s ss free) (All-tail (λ (t : Stretch). All IsNotNegative t.parts) _ (stretches_of m c s.forced ss) more) here tt))
shown_within m by c begins fr start line p (s ∷ ss) (suc zero) are free more is whole =
    let none = head_free s ss free in
    let same = head_measured breaking.WhereForced m by s ss are in
    let widths = All-head (λ (t : Stretch). All IsNotNegative t.parts) _ (stretches_of m c s.forced ss) more in
    shown_after m by fr start line p s ss same none widths is
    (λ l here. shown_within m
    by c s.forced fr start l (over_line fr p (line_parts_of m s.items)) ss zero (tail_measured breaking.WhereForced m by s ss are)
    (tail_free s ss free) (All-tail (λ (t : Stretch). All IsNotNegative t.parts) _ (stretches_of m c s.forced ss) more) here tt)
shown_within m by c begins fr start line p (s ∷ ss) (suc (suc k)) are free more is whole =
    let none = head_free s ss free in
    let same = head_measured breaking.WhereForced m by s ss are in
    let widths = All-head (λ (t : Stretch). All IsNotNegative t.parts) _ (stretches_of m c s.forced ss) more in
    let now = line_more m by fr start line p s same none widths is in
    below_same _ _ _
    (shown_within m
    by c s.forced fr start ((line ++ parts_of by s.items) ++ part.Break s.forced ∷ [])
    (over_line fr p (line_parts_of m s.items)) ss (suc k) (tail_measured breaking.WhereForced m by s ss are)
    (tail_free s ss free) (All-tail (λ (t : Stretch). All IsNotNegative t.parts) _ (stretches_of m c s.forced ss) more)
    (line_past fr.tab.0 start _ _ s.forced now) whole.1)
    (line_goes_on breaking.WhereForced fr.tab.0 start line by s ss (items_content breaking.WhereForced m by s.items same none) whole.0)

-- a line that begins here
pub fresh_line : (tab : ℤ) (start : Length) → IsLine tab start [] (blank start.0)
fresh_line tab start = record { comes = refl; no_floats = refl; order = equal_below start.0 start.0 refl }

pub nothing_left : (how : Breaking) (tab : ℤ) (start : Length) (line : List LinePart) (by : MeasureInValue) (ss : List Segment)
    → width_with how tab no_length [] by [] ≤ℤ width_with how tab start line by ss
nothing_left breaking.WhereAllowed tab start line by ss =
    from_zero breaking.WhereAllowed tab start (lines_of breaking.WhereAllowed line (line_parts by ss))
nothing_left breaking.WhereForced tab start line by ss =
    from_zero breaking.WhereForced tab start (lines_of breaking.WhereForced line (line_parts by ss))

pub left_after_break
    : (m : BoxMeasuresValue) (by : MeasureInValue) (c : Container) (begins : Bool) (tab : ℤ) (start : Length) (line : List LinePart)
    (ss : List Segment) (k : ℕ) (t : Stretch) → AreAsMeasured breaking.WhereForced m by ss → HaveNoFloats ss
    → slice_get (stretches_of m c begins ss) k ≡ Some t → IsTrue t.forced
    → width_with breaking.WhereForced tab no_length [] by (drop (suc k) ss) ≤ℤ width_with breaking.WhereForced tab start line by ss
left_after_break m by c begins tab start line [] k t are free is forced = absurd (let w = slice_get_within [] k t is in omega (arith, w))
left_after_break m by c begins tab start line (s ∷ ss) zero t are free is forced =
    let none = head_free s ss free in
    let same = head_measured breaking.WhereForced m by s ss are in
    let ends : s.forced ≡ true = ap (λ (u : Stretch). u.forced) (same_Some _ t is) ∙ forced in
    below_second _ _ _ _ (equal_below _ _ refl)
    (line_ends breaking.WhereForced tab start line by s ss (items_content breaking.WhereForced m by s.items same none) ends)
left_after_break m by c begins tab start line (s ∷ ss) (suc k) t are free is forced = at s.forced refl
    (λ from l. left_after_break m
    by c s.forced tab from l ss k t (tail_measured breaking.WhereForced m by s ss are) (tail_free s ss free) is forced)
  where
    content : AreContent (parts_of by s.items)
    content = items_content breaking.WhereForced m by s.items (head_measured breaking.WhereForced m by s ss are) (head_free s ss free)

    at : (b : Bool) → s.forced ≡ b
        → ((from : Length) (l : List LinePart)
        → width_with breaking.WhereForced tab no_length [] by (drop (suc k) ss) ≤ℤ width_with breaking.WhereForced tab from l by ss)
        → width_with breaking.WhereForced tab no_length [] by (drop (suc k) ss) ≤ℤ width_with breaking.WhereForced tab start line
        by (s ∷ ss)
    at true e rest = below_second _ _ _ _ (rest no_length []) (line_ends breaking.WhereForced tab start line by s ss content e)
    at false e rest =
        below_same _ _ _ (rest start ((line ++ parts_of by s.items) ++ part.Break s.forced ∷ []))
        (line_goes_on breaking.WhereForced tab start line by s ss content e)

-- and where lines break wherever they may, that is behind each segment
pub left_behind : (m : BoxMeasuresValue) (by : MeasureInValue) (tab : ℤ) (start : Length) (ss : List Segment) (k : ℕ)
    → AreAsMeasured breaking.WhereAllowed m by ss → HaveNoFloats ss
    → width_with breaking.WhereAllowed tab no_length [] by (drop (suc k) ss) ≤ℤ width_with breaking.WhereAllowed tab start [] by ss
left_behind m by tab start [] k are free = nothing_left breaking.WhereAllowed tab start [] by []
left_behind m by tab start (s ∷ ss) zero are free =
    let none = head_free s ss free in
    let same = head_measured breaking.WhereAllowed m by s ss are in
    below_second _ _ _ _ (equal_below _ _ refl)
    (line_ends breaking.WhereAllowed tab start [] by s ss (items_content breaking.WhereAllowed m by s.items same none) refl)
left_behind m by tab start (s ∷ ss) (suc k) are free =
    let none = head_free s ss free in
    let same = head_measured breaking.WhereAllowed m by s ss are in
    below_second _ _ _ _ (left_behind m by tab no_length ss k (tail_measured breaking.WhereAllowed m by s ss are) (tail_free s ss free))
    (line_ends breaking.WhereAllowed tab start [] by s ss (items_content breaking.WhereAllowed m by s.items same none) refl)

-- a segment alone on its line
pub segment_alone : (m : BoxMeasuresValue) (by : MeasureInValue) (fr : Frame) (start : Length) (s : Segment) (ss : List Segment)
    → All (IsAsMeasured breaking.WhereAllowed m by) s.items → All IsNoFloat s.items
    → (over_line fr (blank start.0) (line_parts_of m s.items)).visible.0 ≤ℤ width_with breaking.WhereAllowed fr.tab.0 start [] by (s ∷ ss)
segment_alone m by fr start s ss are free =
    let same = ap (λ (q : Pen). q.visible.0) (lines_come_as_far_lem breaking.WhereAllowed m by fr (blank start.0) s.items are) in
    let here : (over_line fr (blank start.0) (line_parts_of m s.items)).visible.0
    ≤ℤ line_width breaking.WhereAllowed fr.tab.0 start (parts_of by s.items) =
    below_first _ _ (widest_float (parts_of by s.items)) _
    (equal_below _ (pen_after breaking.WhereAllowed fr.tab.0 (begun start) (parts_of by s.items)).visible.0 same) refl in
    below_first _ _ _ _ here
    (line_ends breaking.WhereAllowed fr.tab.0 start [] by s ss (items_content breaking.WhereAllowed m by s.items are free) refl)
