-- A line of content that stands alone, in a width that is no less than a preferred one.
use Rattle.std.proofs.Common.{◌≡◌, ◌⊎◌, inl, inr, ℕ, zero, suc, ◌+◌, ◌<◌, ◌≤◌, ℤ, pos, ◌+ℤ◌, ◌-ℤ◌, ◌≤ℤ◌}
use Rattle.std.proofs.Common.{Bool, true, false, ◌||◌, if◌then◌else◌, List, [], ◌∷◌, All, length, take}
use Rattle.std.proofs.Common.{drop, slice_get, Some, IsTrue, IsFalse, refl, sym, ap, subst, ◌∙◌, arith}
use Rattle.std.proofs.lemmas.Bool.{cases_lt, or_right}
use Rattle.std.proofs.lemmas.Int.{ints}
use Rattle.std.proofs.lemmas.List.Elements.{All-drop}
use Rattle.std.proofs.lemmas.Option.{same_Some, slice_get_within}
use Rattle.lay_units.specs.Lengths.{no_length}
use Rattle.lay_floats.specs.declared.placed.Placed.{Placed}
use Rattle.lay_floats.specs.SolidPlace.{IsAlone}
use Rattle.lay_flow_boxes.proofs.Cited.{all_fit, one_room_lem, pen_seen, some_at, takes_some, top_fits}
use Rattle.lay_space.specs.declared.segment.Segment.{Segment}
use Rattle.lay_lines.specs.declared.content.content.Stretch.{Stretch}
use Rattle.lay_lines.specs.declared.content.frame.Frame.{Frame}
use Rattle.lay_lines.specs.declared.content.pen.Pen.{Pen as LinePen}
use Rattle.lay_lines.specs.Content.Extents.{any_shows}
use Rattle.lay_lines.specs.Content.Pens.{blank, pen_to, seen_to, strut_height}
use Rattle.lay_lines.specs.Filling.{Fills, FitsNext, HasFit, Reaches, Takes}
use Rattle.lay_lines.specs.Meeting.{IsLineRoom, State}
use Rattle.lay_lines.specs.Rows.{IsFilled, IsRow, Position, Row, after_row, emptied}
use Rattle.lay_line_measures.specs.declared.container.Container.{Container}
use Rattle.lay_line_measures.specs.BoxMeasuresValue.{BoxMeasuresValue}
use Rattle.lay_line_measures.specs.SeenLines.{has_seen_line}
use Rattle.lay_line_measures.specs.Stretches.{stretch_of, stretches_of}
use Rattle.lay_measure.specs.declared.pen.Breaking.{Breaking}
use Rattle.lay_measure.specs.declared.pen.Breaking.TheVariants as breaking
use Rattle.lay_measure.specs.MeasureInValue.{MeasureInValue}
use Rattle.lay_flow_boxes.specs.Words.LinesAlone.{AreAsMeasured, HasToEnd, HaveNoFloats, IsAsMeasured, IsForcedLine, IsNoFloat, NoneIsNegative}
use Rattle.lay_flow_boxes.proofs.WordsLemmas.LinesWithoutFloats.{HaveNone, fills_none, meets_none, none_in, whole_room}
use Rattle.lay_flow_boxes.proofs.WordsLemmas.MeasuredContent.{head_free, head_measured, width_with}
use Rattle.lay_flow_boxes.proofs.WordsLemmas.MeasuredWidths.{IsUnbroken, fresh_line, left_after_break, left_behind, no_more}
use Rattle.lay_flow_boxes.proofs.WordsLemmas.MeasuredWidths.{nothing_left, pen_from, pen_is_from, segment_alone, shown_within}
use Rattle.lay_flow_boxes.proofs.WordsLemmas.SeenContent.{more_seen}

-- where a line begins: what is left, and that its lines are no wider than this
pub record StandsAlone
    (how : Breaking) (m : BoxMeasuresValue) (by : MeasureInValue) (c : Container) (floats : List Placed) (width : ℤ) (p : Position)
    : Type 0 where
  pub begins : Bool
  pub segments : List Segment
  pub rest : p.rest ≡ stretches_of m c begins segments
  pub no_floats : HaveNoFloats segments
  pub widths : AreAsMeasured how m by segments
  pub wide : width_with how p.frame.tab.0 p.frame.indent [] by segments ≤ℤ width
  pub shown : p.frame.indent.0 ≡ pos 0 ⊎ IsTrue (has_seen_line (take 1 p.rest))
  pub room : width ≤ℤ (p.frame.right.0 -ℤ p.frame.left.0)
  pub standing : p.state.floats ≡ floats
  pub waiting : p.state.put_off ≡ []

none_left : (ss : List Stretch) (m : BoxMeasuresValue) (c : Container) (begins : Bool) (us : List Segment) → ss ≡ stretches_of m c begins us
    → HaveNoFloats us → HaveNone ss
none_left ss m c begins us e free = subst (λ (ts : List Stretch). HaveNone ts) (sym e) (none_in m c begins us free)

-- what holds of a line of it
record IsAloneRow (p : Position) (r : Row) : Type 0 where
  none : HaveNone p.rest
  headed : r.headed ≡ p.state
  filled : r.filled ≡ p.state
  whole : IsLineRoom p.frame r.top p.state.floats p.frame.left.0 p.frame.right.0
  some : 0 < r.reach.count

row_alone
    : (how : Breaking) (m : BoxMeasuresValue) (by : MeasureInValue) (c : Container) (floats : List Placed)
    (width : ℤ) (p : Position) (r : Row)
    → StandsAlone how m by c floats width p → IsFilled p r → IsAlone floats r.top (strut_height p.frame) → IsAloneRow p r
row_alone how m by c floats width p r stands is beside =
    let none = none_left p.rest m c stands.begins stands.segments stands.rest stands.no_floats in
    let headed = meets_none p.frame p.from p.rest 0 is.first.heads p.state r.headed (none 0 is.first is.is).0 is.heads in
    let alone = subst (λ (fs : List Placed). IsAlone fs r.top (strut_height p.frame)) (sym stands.standing) beside in
    record {
      none = none;
      headed = headed;
      filled = fills_none p.frame r.top p.rest r.reach.count r.headed r.filled none is.filled_is ∙ headed;
      whole = whole_room p.state.floats r.top (strut_height p.frame) p.frame.left.0 p.frame.right.0 alone;
      some =
          takes_some p.frame r.top p.rest r.headed r.reach.count (slice_get_within p.rest 0 is.first is.is)
          (top_fits p.frame r.top p.rest r.headed.floats is.top_is.begins) is.count_is;
    }

-- the pen in the whole room
at_left : (left indent : ℤ) → (left -ℤ left) +ℤ indent ≡ indent
at_left left indent = omega (arith, ints)

pen_in_room : (fr : Frame) (ss : List Stretch) (k : ℕ) → pen_to fr fr.left.0 ss k ≡ pen_from fr (blank fr.indent.0) ss k
pen_in_room fr ss k = pen_is_from fr fr.left.0 ss k ∙ ap (λ (z : ℤ). pen_from fr (blank z) ss k) (at_left fr.left.0 fr.indent.0)

unbroken : (m : BoxMeasuresValue) (c : Container) (begins : Bool) (us : List Segment) (n : ℕ)
    → ((j : ℕ) (s : Stretch) → suc j < n → slice_get (stretches_of m c begins us) j ≡ Some s → IsFalse s.forced) → IsUnbroken us n
unbroken m c begins us zero h = tt
unbroken m c begins [] (suc k) h = tt
unbroken m c begins (s ∷ us) (suc zero) h = tt
unbroken m c begins (s ∷ us) (suc (suc k)) h = (
  h zero (stretch_of m c begins s) (omega arith) refl,
  unbroken m c s.forced us (suc k)
      (λ j t less is. h (suc j) t (omega (arith, less)) is),
)

-- Content that nothing has to break comes no further than the preferred width.
unbroken_within
    : (m : BoxMeasuresValue) (by : MeasureInValue) (c : Container) (fr : Frame) (begins : Bool)
    (us : List Segment) (ss : List Stretch) (n : ℕ)
    → ss ≡ stretches_of m c begins us → AreAsMeasured breaking.WhereForced m by us → HaveNoFloats us → NoneIsNegative ss
    → ((j : ℕ) (s : Stretch) → suc j < n → slice_get ss j ≡ Some s → IsFalse s.forced)
    → (pen_to fr fr.left.0 ss n).visible.0 ≤ℤ width_with breaking.WhereForced fr.tab.0 fr.indent [] by us
unbroken_within m by c fr begins us ss n e are free more whole =
    let these = subst (λ (ts : List Stretch). NoneIsNegative ts) e more in
    let unforced = subst (λ (ts : List Stretch). (j : ℕ) (s : Stretch) → suc j < n → slice_get ts j ≡ Some s → IsFalse s.forced) e whole in
    let within = shown_within m
    by c begins fr fr.indent [] (blank fr.indent.0) us n are free these (fresh_line fr.tab.0 fr.indent)
    (unbroken m c begins us n unforced) in
    let there = subst (λ (q : LinePen). q.visible.0 ≤ℤ width_with breaking.WhereForced fr.tab.0 fr.indent [] by us)
    (sym (pen_in_room fr (stretches_of m c begins us) n)) within in
    subst (λ (ts : List Stretch). (pen_to fr fr.left.0 ts n).visible.0 ≤ℤ width_with breaking.WhereForced fr.tab.0 fr.indent [] by us)
    (sym e) there

-- A line ends where it has to, where all that nothing has to break fits.
has_to_end : (fr : Frame) (y : ℤ) (ss : List Stretch) (st now : State) (n : ℕ) → Takes fr y ss st n → Fills fr y ss n st now → 0 < n
    → ((k : ℕ) → ((j : ℕ) (s : Stretch) → suc j < k → slice_get ss j ≡ Some s → IsFalse s.forced) → HasFit fr y ss k now.floats)
    → HasToEnd ss n
has_to_end fr y ss st now zero takes fills some fit = absurd (omega (arith, some))
has_to_end fr y ss st now (suc k) takes fills some fit = elim (cases_lt (suc k) (length ss)) [
  | inr high ↦ (let within = takes.can.within in inl (omega (arith, high, within)))
  | inl low ↦ (let w = some_at ss k (omega (arith, low)) in at low w.0 w.1 w.0.forced refl)
]
  where
    unforced : (s : Stretch) → slice_get ss k ≡ Some s → IsFalse s.forced → (j : ℕ) (t : Stretch)
        → suc j < suc (suc k) → slice_get ss j ≡ Some t → IsFalse t.forced
    unforced s is free j t less e = elim (cases_lt (suc j) (suc k)) [
      | inl low ↦ takes.can.last j t (omega (arith, low)) e
      | inr high ↦ (let same : k ≡ j = omega (arith, high, less) in
          let one : s ≡ t = same_Some s t (sym is ∙ ap (slice_get ss) same ∙ e) in subst (λ (u : Stretch). IsFalse u.forced) one free)
    ]

    at : suc k < length ss → (s : Stretch) → slice_get ss k ≡ Some s → (b : Bool) → s.forced ≡ b → HasToEnd ss (suc k)
    at low s is true e = inr (k, s, refl, is, e)
    at low s is false e =
        let can : Reaches ss (suc k + 1) =
        record { within = omega (arith, low); last = λ j t less f. unforced s is e j t (omega (arith, less)) f } in
        absurd
        (takes.most (suc k + 1) (omega arith) can
        (all_fit fr y ss st now (suc k) takes.fits fills (inl (fit (suc (suc k)) (unforced s is e)))))

pub ends_where_forced
    : (m : BoxMeasuresValue) (by : MeasureInValue) (c : Container) (floats : List Placed) (width : ℤ) (p : Position) (r : Row)
    → NoneIsNegative p.rest → StandsAlone breaking.WhereForced m by c floats width p → IsFilled p r
    → IsAlone floats r.top (strut_height p.frame) → IsForcedLine p.rest r.reach.count
ends_where_forced m by c floats width p r more stands is beside =
    let row = row_alone breaking.WhereForced m by c floats width p r stands is beside in
    let room = subst (λ (st : State). IsLineRoom p.frame r.top st.floats p.frame.left.0 p.frame.right.0) (sym row.filled) row.whole in
    record {
      ends =
          has_to_end p.frame r.top p.rest r.headed r.filled r.reach.count is.count_is is.filled_is row.some
          (λ k whole. (
            p.frame.left.0,
            p.frame.right.0,
            room,
            no_more _ _ _
                (unbroken_within m
                by c p.frame stands.begins stands.segments p.rest k stands.rest stands.widths stands.no_floats more whole)
                (no_more _ _ _ stands.wide stands.room),
          ));
      before = λ k s less e. is.count_is.can.last k s (omega (arith, less)) e;
    }

-- The first segment of a line comes no further than the preferred minimum width.
first_within : (m : BoxMeasuresValue) (by : MeasureInValue) (c : Container) (fr : Frame) (begins : Bool) (us : List Segment)
    → AreAsMeasured breaking.WhereAllowed m by us → HaveNoFloats us → 0 < length (stretches_of m c begins us)
    → (pen_to fr fr.left.0 (stretches_of m c begins us) 1).visible.0 ≤ℤ width_with breaking.WhereAllowed fr.tab.0 fr.indent [] by us
first_within m by c fr begins [] are free some = absurd (omega (arith, some))
first_within m by c fr begins (s ∷ us) are free some =
    subst (λ (q : LinePen). q.visible.0 ≤ℤ width_with breaking.WhereAllowed fr.tab.0 fr.indent [] by (s ∷ us))
    (sym (pen_in_room fr (stretches_of m c begins (s ∷ us)) 1))
    (segment_alone m by fr fr.indent s us (head_measured breaking.WhereAllowed m by s us are) (head_free s us free))

-- what fits its room, where that is whole
fits_whole : (fr : Frame) (y : ℤ) (ss : List Stretch) (k : ℕ) (floats : List Placed)
    → IsLineRoom fr y floats fr.left.0 fr.right.0 → HasFit fr y ss k floats
    → (pen_to fr fr.left.0 ss k).visible.0 ≤ℤ (fr.right.0 -ℤ fr.left.0)
fits_whole fr y ss k floats room fit =
    let same = one_room_lem _ _ _ _ _ _ _ _ _ fit.2 room in
    subst (λ (e : ℤ). (pen_to fr fr.left.0 ss k).visible.0 ≤ℤ (e -ℤ fr.left.0)) same.1
    (subst (λ (a : ℤ). (pen_to fr a ss k).visible.0 ≤ℤ (fit.1 -ℤ fr.left.0)) same.0 fit.3)

-- All that a line takes fits, where its first segment does.
taken_fits : (fr : Frame) (y : ℤ) (ss : List Stretch) (floats : List Placed) (n k : ℕ) → IsLineRoom fr y floats fr.left.0 fr.right.0
    → (pen_to fr fr.left.0 ss 1).visible.0 ≤ℤ (fr.right.0 -ℤ fr.left.0) → ((j : ℕ) → j < n → FitsNext fr y ss j floats) → 0 < k → k ≤ n
    → (pen_to fr fr.left.0 ss k).visible.0 ≤ℤ (fr.right.0 -ℤ fr.left.0)
taken_fits fr y ss floats n zero room first fits some le = absurd (omega (arith, some))
taken_fits fr y ss floats n (suc zero) room first fits some le = first
taken_fits fr y ss floats n (suc (suc k)) room first fits some le =
    at (fits (suc k) (omega (arith, le))) (taken_fits fr y ss floats n (suc k) room first fits (omega arith) (omega (arith, le)))
  where
    at : FitsNext fr y ss (suc k) floats → (pen_to fr fr.left.0 ss (suc k)).visible.0 ≤ℤ (fr.right.0 -ℤ fr.left.0)
        → (pen_to fr fr.left.0 ss (suc (suc k))).visible.0 ≤ℤ (fr.right.0 -ℤ fr.left.0)
    at (inl fit) before = fits_whole fr y ss (suc (suc k)) floats room fit
    at (inr (inl alone)) before = absurd (let e = alone.0 in omega (arith, e))
    at (inr (inr later)) before =
        let none = later.1 in
        let same = one_room_lem _ _ _ _ _ _ _ _ _ none.2 room in
        no_more _ _ _
        (subst (λ (a : ℤ). (pen_to fr a ss (suc (suc k))).visible.0 ≤ℤ (pen_to fr a ss (suc k)).visible.0) same.0 none.3) before

pub held : (m : BoxMeasuresValue) (by : MeasureInValue) (c : Container) (floats : List Placed) (width : ℤ) (p : Position) (r : Row)
    → StandsAlone breaking.WhereAllowed m by c floats width p → IsFilled p r
    → IsAlone floats r.top (strut_height p.frame) → r.reach.pen.visible.0 ≤ℤ (p.frame.right.0 -ℤ p.frame.left.0)
held m by c floats width p r stands is beside =
    let row = row_alone breaking.WhereAllowed m by c floats width p r stands is beside in
    let fr = p.frame in
    let n = r.reach.count in
    let some = slice_get_within p.rest 0 is.first is.is in
    let first : (pen_to p.frame p.frame.left.0 p.rest 1).visible.0 ≤ℤ width_with breaking.WhereAllowed p.frame.tab.0 p.frame.indent []
    by stands.segments =
    subst
    (λ (ts : List Stretch). (pen_to p.frame p.frame.left.0 ts 1).visible.0
    ≤ℤ width_with breaking.WhereAllowed p.frame.tab.0 p.frame.indent [] by stands.segments)
    (sym stands.rest)
    (first_within m
    by c p.frame stands.begins stands.segments stands.widths stands.no_floats
    (subst (λ (ts : List Stretch). 0 < length ts) stands.rest some)) in
    let fits : (j : ℕ) → j < n → FitsNext p.frame r.top p.rest j p.state.floats =
    (λ j less.
    (let there = is.count_is.fits.each j less in
    let same = fills_none p.frame r.top p.rest j r.headed there.0 row.none there.1 ∙ row.headed in
    subst (λ (st : State). FitsNext p.frame r.top p.rest j st.floats) same there.2)) in
    let all =
    taken_fits fr r.top p.rest p.state.floats n n row.whole
    (no_more _ _ _ first (no_more _ _ _ stands.wide stands.room)) fits row.some (omega arith) in
    let room = subst (λ (st : State). IsLineRoom p.frame r.top st.floats r.reach.start.0 r.reach.end.0) row.filled is.room_is in
    let same = one_room_lem _ _ _ _ _ _ _ _ _ row.whole room in
    subst (λ (q : LinePen). q.visible.0 ≤ℤ (p.frame.right.0 -ℤ p.frame.left.0)) (sym is.pen_is)
    (subst (λ (a : ℤ). (pen_to p.frame a p.rest r.reach.count).visible.0 ≤ℤ (p.frame.right.0 -ℤ p.frame.left.0)) same.0 all)

-- what is left behind a line
stretches_drop : (m : BoxMeasuresValue) (c : Container) (n : ℕ) (begins : Bool) (us : List Segment)
    → (b : Bool) × (drop n (stretches_of m c begins us) ≡ stretches_of m c b (drop n us))
stretches_drop m c zero begins us = (begins, refl)
stretches_drop m c (suc n) begins [] = (begins, refl)
stretches_drop m c (suc n) begins (s ∷ us) = stretches_drop m c n s.forced us

chosen : (b : Bool) (v : ℤ) → b ≡ true ⊎ v ≡ pos 0 → (if b then pos 0 else v) ≡ pos 0
chosen true v h = refl
chosen false v (inl e) = absurd cc
chosen false v (inr e) = e

indent_spent : (p : Position) (r : Row) (some : 0 < r.reach.count) → IsFilled p r
    → p.frame.indent.0 ≡ pos 0 ⊎ IsTrue (has_seen_line (take 1 p.rest))
    → (if r.seen then pos 0 else p.frame.indent.0) ≡ pos 0
indent_spent p r some is (inl none) = chosen r.seen p.frame.indent.0 (inr none)
indent_spent p r some is (inr first) =
    let shown : seen_to p.frame p.rest r.reach.count ≡ true =
    pen_seen p.frame (pos 0) p.rest r.reach.count ∙ more_seen p.rest r.reach.count some first in
    let seen : r.seen ≡ true = is.seen_is ∙ ap (λ (b : Bool). any_shows p.open_boxes || b) shown ∙ or_right (any_shows p.open_boxes) true refl in
    chosen r.seen p.frame.indent.0 (inl seen)

pub stands_after
    : (how : Breaking) (m : BoxMeasuresValue) (by : MeasureInValue) (c : Container) (floats : List Placed)
    (width : ℤ) (p : Position) (r : Row)
    → (stands : StandsAlone how m by c floats width p) → IsRow p r → IsAlone floats r.top (strut_height p.frame)
    → width_with how p.frame.tab.0 no_length [] by (drop r.reach.count stands.segments) ≤ℤ width_with how p.frame.tab.0 p.frame.indent []
    by stands.segments
    → StandsAlone how m by c floats width (after_row p r)
stands_after how m by c floats width p r stands is beside less =
    let row = row_alone how m by c floats width p r stands is.filled beside in
    let left = stretches_drop m c r.reach.count stands.begins stands.segments in
    let none : (if r.seen then pos 0 else p.frame.indent.0) ≡ pos 0 = indent_spent p r row.some is.filled stands.shown in
    let waiting = ap (λ (st : State). st.put_off) row.filled ∙ stands.waiting in
    let after = meets_none p.frame r.to p.rest 0 r.filled.put_off (emptied r.filled) r.after waiting is.later in
    record {
      begins = left.0;
      segments = drop r.reach.count stands.segments;
      rest = ap (λ (ts : List Stretch). drop r.reach.count ts) stands.rest ∙ left.1;
      no_floats = All-drop (λ (s : Segment). All IsNoFloat s.items) r.reach.count stands.segments stands.no_floats;
      widths = All-drop (λ (s : Segment). All (IsAsMeasured how m by) s.items) r.reach.count stands.segments stands.widths;
      wide =
          subst (λ (v : ℤ). width_with how p.frame.tab.0 (record { 0 = v }) [] by (drop r.reach.count stands.segments) ≤ℤ width) (sym none)
          (no_more _ _ _ less stands.wide);
      shown = inl none;
      room = stands.room;
      standing = ap (λ (st : State). st.floats) after ∙ ap (λ (st : State). st.floats) row.filled ∙ stands.standing;
      waiting = ap (λ (st : State). st.put_off) after;
    }

-- what is left is no wider, where a line ends where it has to, and where lines break wherever they may
pub less_where_forced
    : (m : BoxMeasuresValue) (by : MeasureInValue) (c : Container) (floats : List Placed) (width : ℤ) (p : Position) (n : ℕ)
    → (stands : StandsAlone breaking.WhereForced m by c floats width p) → HasToEnd p.rest n
    → width_with breaking.WhereForced p.frame.tab.0 no_length [] by (drop n stands.segments)
    ≤ℤ width_with breaking.WhereForced p.frame.tab.0 p.frame.indent [] by stands.segments
less_where_forced m by c floats width p n stands (inl e) =
    subst
    (λ (us : List Segment). width_with breaking.WhereForced p.frame.tab.0 no_length []
    by us ≤ℤ width_with breaking.WhereForced p.frame.tab.0 p.frame.indent [] by stands.segments)
    (sym (nothing_more m c stands.begins stands.segments n (e ∙ ap (λ (ts : List Stretch). length ts) stands.rest)))
    (nothing_left breaking.WhereForced p.frame.tab.0 p.frame.indent [] by stands.segments)
  where
    nothing_more : (m : BoxMeasuresValue) (c : Container) (begins : Bool) (us : List Segment) (n : ℕ)
        → n ≡ length (stretches_of m c begins us) → drop n us ≡ []
    nothing_more m c begins [] zero e = refl
    nothing_more m c begins [] (suc n) e = refl
    nothing_more m c begins (s ∷ us) zero e = absurd (omega (arith, e))
    nothing_more m c begins (s ∷ us) (suc n) e = nothing_more m c s.forced us n (omega (arith, e))
less_where_forced m by c floats width p n stands (inr w) =
    subst
    (λ (j : ℕ). width_with breaking.WhereForced p.frame.tab.0 no_length []
    by (drop j stands.segments) ≤ℤ width_with breaking.WhereForced p.frame.tab.0 p.frame.indent [] by stands.segments)
    (sym w.2)
    (left_after_break m by c stands.begins p.frame.tab.0 p.frame.indent [] stands.segments w.0 w.1 stands.widths stands.no_floats
    (ap (λ (ts : List Stretch). slice_get ts w.0) (sym stands.rest) ∙ w.3) w.4)

pub less_where_allowed
    : (m : BoxMeasuresValue) (by : MeasureInValue) (c : Container) (floats : List Placed) (width : ℤ) (p : Position) (n : ℕ) → 0 < n
    → (stands : StandsAlone breaking.WhereAllowed m by c floats width p)
    → width_with breaking.WhereAllowed p.frame.tab.0 no_length [] by (drop n stands.segments)
    ≤ℤ width_with breaking.WhereAllowed p.frame.tab.0 p.frame.indent [] by stands.segments
less_where_allowed m by c floats width p zero some stands = absurd (omega (arith, some))
less_where_allowed m by c floats width p (suc k) some stands = left_behind m
    by p.frame.tab.0 p.frame.indent stands.segments k stands.widths stands.no_floats

pub takes_something
    : (how : Breaking) (m : BoxMeasuresValue) (by : MeasureInValue) (c : Container) (floats : List Placed)
    (width : ℤ) (p : Position) (r : Row)
    → StandsAlone how m by c floats width p → IsFilled p r → IsAlone floats r.top (strut_height p.frame) → 0 < r.reach.count
takes_something how m by c floats width p r stands is beside = (row_alone how m by c floats width p r stands is beside).some
