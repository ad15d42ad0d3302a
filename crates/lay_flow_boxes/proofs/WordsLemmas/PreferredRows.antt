-- Lines of content that stands alone, one after the other.
use Rattle.std.proofs.Common.{◌≡◌, ◌⊎◌, inl, inr, ℕ, zero, suc, ℤ, pos, ◌-ℤ◌, ◌≤ℤ◌, Bool, true, false, if◌then◌else◌, List}
use Rattle.std.proofs.Common.{[], ◌∷◌, ◌++◌, All, take, drop, map, slice_get, Some, IsTrue, refl, sym, ap, subst, ◌∙◌, arith}
use Rattle.std.specs.List.{AllByRecursion, list_any}
use Rattle.std.proofs.lemmas.Int.{ints}
use Rattle.std.proofs.lemmas.List.{map-append}
use Rattle.std.proofs.lemmas.List.Elements.{All-drop, All-nil, All-push, recursion_from_All}
use Rattle.lay_units.specs.declared.length.Unit.{Unit as Length}
use Rattle.lay_units.specs.Lengths.{no_length}
use Rattle.lay_floats.specs.declared.placed.Placed.{Placed}
use Rattle.lay_floats.specs.SolidPlace.{IsAlone}
use Rattle.lay_box_tree.specs.declared.box_tree.BoxNode.{BoxNode}
use Rattle.lay_face.specs.FaceValue.{FaceValue}
use Rattle.lay_space.specs.declared.segment.Segment.{Segment}
use Rattle.lay_lines.specs.declared.content.content.Stretch.{Stretch}
use Rattle.lay_lines.specs.declared.content.frame.Extent.{Extent}
use Rattle.lay_lines.specs.Content.Extents.{height_of}
use Rattle.lay_lines.specs.Content.Pens.{strut_height}
use Rattle.lay_lines.specs.declared.row.Ended.{Ended}
use Rattle.lay_lines.specs.Lines.{LinesValue, first_position}
use Rattle.lay_lines.specs.Rows.{IsRow, Laid, Position, Row, RowsTo, after_row, ended_of}
use Rattle.lay_line_measures.specs.declared.container.Container.{Container}
use Rattle.lay_line_measures.specs.BoxMeasuresValue.{BoxMeasuresValue}
use Rattle.lay_line_measures.specs.Contents.{content_in, indent_in, tab_in}
use Rattle.lay_line_measures.specs.SeenLines.{has_seen_line}
use Rattle.lay_line_measures.specs.Stretches.{stretches_of}
use Rattle.lay_measure.specs.declared.pen.Breaking.{Breaking}
use Rattle.lay_measure.specs.declared.pen.Breaking.TheVariants as breaking
use Rattle.lay_measure.specs.LineParts.{line_parts}
use Rattle.lay_measure.specs.LineWidths.{first_start, indent_length, inline_widths, is_seen, lines_of, tab_of, widest}
use Rattle.lay_measure.specs.MeasureInValue.{MeasureInValue}
use Rattle.lay_flow_boxes.specs.Words.LinesAlone.{AreAlone, AreAsMeasured, BreakWhereForced, IsForcedLine, IsNotNegative, NoneIsNegative}
use Rattle.lay_flow_boxes.specs.Words.PreferredLines.{MinimumWidthHoldsEachLine, PreferredWidthBreaksNothing}
use Rattle.lay_flow_boxes.proofs.WordsLemmas.MeasuredContent.{width_with}
use Rattle.lay_flow_boxes.proofs.WordsLemmas.RowsAlone.{StandsAlone, ends_where_forced, held, less_where_allowed}
use Rattle.lay_flow_boxes.proofs.WordsLemmas.RowsAlone.{less_where_forced, stands_after, takes_something}
use Rattle.lay_flow_boxes.proofs.WordsLemmas.SeenContent.{first_seen}

-- what lines leave of content, and that each of them ends where it has to
abbrev left_after : List Stretch → List Ended → List Stretch
left_after ss [] = ss
left_after ss (r ∷ rows) = left_after (drop r.reach.count ss) rows

abbrev AreEnded : List Stretch → List Ended → Type 0
AreEnded ss [] = Unit {0}
AreEnded ss (r ∷ rows) = IsForcedLine ss r.reach.count × AreEnded (drop r.reach.count ss) rows

left_more : (ss : List Stretch) (rows : List Ended) (r : Ended) → left_after ss (rows ++ r ∷ []) ≡ drop r.reach.count (left_after ss rows)
left_more ss [] r = refl
left_more ss (x ∷ rows) r = left_more (drop x.reach.count ss) rows r

ended_more : (ss : List Stretch) (rows : List Ended) (r : Ended) → AreEnded ss rows
    → IsForcedLine (left_after ss rows) r.reach.count → AreEnded ss (rows ++ r ∷ [])
ended_more ss [] r are is = (is, tt)
ended_more ss (x ∷ rows) r are is = (are.0, ended_more (drop x.reach.count ss) rows r are.1 is)

all_ended : (ss : List Stretch) (rows : List Ended) → AreEnded ss rows → left_after ss rows ≡ [] → BreakWhereForced ss rows
all_ended ss [] are none = none
all_ended ss (r ∷ rows) are none = (are.0, all_ended (drop r.reach.count ss) rows are.1 none)

split_all : {X : Type 0} (P : X → Type 0) (xs ys : List X) → AllByRecursion P (xs ++ ys) → AllByRecursion P xs × AllByRecursion P ys
split_all P [] ys all = (tt, all)
split_all P (x ∷ xs) ys all = let rest = split_all P xs ys all.1 in ((all.0, rest.0), rest.1)

-- no float is next to any of these lines
abbrev AllBeside : List Placed → Extent → List Ended → Type 0
AllBeside floats strut rows = AllByRecursion (λ (r : Ended). IsAlone floats r.top.0 (height_of strut)) rows

-- of the lines so far and one more
beside_more : (floats : List Placed) (strut : Extent) (rows : List Row) (r : Row) → AllBeside floats strut (map ended_of (rows ++ r ∷ []))
    → AllBeside floats strut (map ended_of rows) × IsAlone floats r.top (height_of strut)
beside_more floats strut rows r all =
    let both = split_all (λ (e : Ended). IsAlone floats e.top.0 (height_of strut)) (map ended_of rows) (ended_of r ∷ [])
    (subst (λ (es : List Ended). AllBeside floats strut es) (map-append ended_of rows (r ∷ [])) all) in
    (both.0, both.1.0)

-- what stays so from line to line
record SoFar
    (how : Breaking) (m : BoxMeasuresValue) (by : MeasureInValue) (c : Container) (floats : List Placed)
    (width : ℤ) (strut : Extent) (left right : Length)
    (p : Position) : Type 0 where
  stands : StandsAlone how m by c floats width p
  strut_is : p.frame.strut ≡ strut
  left_is : p.frame.left ≡ left
  right_is : p.frame.right ≡ right

beside_line : (floats : List Placed) (y : ℤ) (strut : Extent) (p : Position) → p.frame.strut ≡ strut → IsAlone floats y (height_of strut)
    → IsAlone floats y (strut_height p.frame)
beside_line floats y strut p e is = subst (λ (x : Extent). IsAlone floats y (height_of x)) (sym e) is

-- lines that break where they have to
record Forced
    (m : BoxMeasuresValue) (by : MeasureInValue) (c : Container) (floats : List Placed) (width : ℤ) (strut : Extent) (left right : Length)
    (ss : List Stretch) (l : Laid) : Type 0 where
  so_far : SoFar breaking.WhereForced m by c floats width strut left right l.position
  more : NoneIsNegative l.position.rest
  rest : left_after ss (map ended_of l.rows) ≡ l.position.rest
  ended : AreEnded ss (map ended_of l.rows)

forced_more
    : (m : BoxMeasuresValue) (by : MeasureInValue) (c : Container) (floats : List Placed) (width : ℤ) (strut : Extent) (left right : Length)
    (ss : List Stretch) (a : Laid) (r : Row) → Forced m by c floats width strut left right ss a
    → IsRow a.position r → IsAlone floats r.top (height_of strut)
    → Forced m by c floats width strut left right ss (record { rows = a.rows ++ r ∷ []; position = after_row a.position r })
forced_more m by c floats width strut left right ss a r so is alone =
    let p = a.position in
    let n = r.reach.count in
    let stands = so.so_far.stands in
    let beside = beside_line floats r.top strut a.position so.so_far.strut_is alone in
    let ends = ends_where_forced m by c floats width a.position r so.more stands is.filled beside in
    let rows = sym (map-append ended_of a.rows (r ∷ [])) in
    record {
      so_far = record {
        stands = stands_after breaking.WhereForced m by c floats width a.position r stands is beside
            (less_where_forced m by c floats width a.position r.reach.count stands ends.ends);
        strut_is = so.so_far.strut_is;
        left_is = so.so_far.left_is;
        right_is = so.so_far.right_is;
      };
      more = All-drop (λ (t : Stretch). All IsNotNegative t.parts) r.reach.count a.position.rest so.more;
      rest = ap (λ (es : List Ended). left_after ss es) (sym rows) ∙ left_more ss (map ended_of a.rows) (ended_of r)
          ∙ ap (λ (ts : List Stretch). drop r.reach.count ts) so.rest;
      ended = subst (λ (es : List Ended). AreEnded ss es) rows
          (ended_more ss (map ended_of a.rows) (ended_of r) so.ended
          (subst (λ (ts : List Stretch). IsForcedLine ts r.reach.count) (sym so.rest) ends));
    }

all_forced
    : (m : BoxMeasuresValue) (by : MeasureInValue) (c : Container) (floats : List Placed) (width : ℤ) (strut : Extent) (left right : Length)
    (ss : List Stretch) (n : ℕ) (a b : Laid) → Forced m by c floats width strut left right ss a
    → RowsTo n a b → AllBeside floats strut (map ended_of b.rows) → Forced m by c floats width strut left right ss b
all_forced m by c floats width strut left right ss zero a b so e beside = subst (Forced m by c floats width strut left right ss) (sym e) so
all_forced m by c floats width strut left right ss (suc n) a b so (mid, before, step) beside =
    let both =
    beside_more floats strut mid.rows step.row (subst (λ (l : Laid). AllBeside floats strut (map ended_of l.rows)) step.after beside) in
    subst (Forced m by c floats width strut left right ss) (sym step.after)
    (forced_more m by c floats width strut left right ss mid step.row
    (all_forced m by c floats width strut left right ss n a mid so before both.0) step.is both.1)

-- lines that reach no further than the width
record Allowed
    (m : BoxMeasuresValue) (by : MeasureInValue) (c : Container) (floats : List Placed) (width : ℤ)
    (strut : Extent) (left right : Length) (l : Laid)
    : Type 0 where
  so_far : SoFar breaking.WhereAllowed m by c floats width strut left right l.position
  held_all : All (λ (e : Ended). e.reach.pen.visible.0 ≤ℤ (right.0 -ℤ left.0)) (map ended_of l.rows)

allowed_more
    : (m : BoxMeasuresValue) (by : MeasureInValue) (c : Container) (floats : List Placed) (width : ℤ) (strut : Extent) (left right : Length)
    (a : Laid) (r : Row) → Allowed m by c floats width strut left right a
    → IsRow a.position r → IsAlone floats r.top (height_of strut)
    → Allowed m by c floats width strut left right (record { rows = a.rows ++ r ∷ []; position = after_row a.position r })
allowed_more m by c floats width strut left right a r so is alone =
    let stands = so.so_far.stands in
    let beside = beside_line floats r.top strut a.position so.so_far.strut_is alone in
    let some = takes_something breaking.WhereAllowed m by c floats width a.position r stands is.filled beside in
    let here = held m by c floats width a.position r stands is.filled beside in
    let at_left = subst (λ (v : Length). r.reach.pen.visible.0 ≤ℤ (a.position.frame.right.0 -ℤ v.0)) so.so_far.left_is here in
    let at_right = subst (λ (v : Length). r.reach.pen.visible.0 ≤ℤ (v.0 -ℤ left.0)) so.so_far.right_is at_left in
    record {
      so_far = record {
        stands = stands_after breaking.WhereAllowed m by c floats width a.position r stands is beside
            (less_where_allowed m by c floats width a.position r.reach.count some stands);
        strut_is = so.so_far.strut_is;
        left_is = so.so_far.left_is;
        right_is = so.so_far.right_is;
      };
      held_all = subst (λ (es : List Ended). All (λ (e : Ended). e.reach.pen.visible.0 ≤ℤ (right.0 -ℤ left.0)) es)
          (sym (map-append ended_of a.rows (r ∷ [])))
          (All-push (λ (e : Ended). e.reach.pen.visible.0 ≤ℤ (right.0 -ℤ left.0)) (map ended_of a.rows) (ended_of r) so.held_all at_right);
    }

all_allowed
    : (m : BoxMeasuresValue) (by : MeasureInValue) (c : Container) (floats : List Placed) (width : ℤ) (strut : Extent) (left right : Length)
    (n : ℕ) (a b : Laid) → Allowed m by c floats width strut left right a
    → RowsTo n a b → AllBeside floats strut (map ended_of b.rows) → Allowed m by c floats width strut left right b
all_allowed m by c floats width strut left right zero a b so e beside = subst (Allowed m by c floats width strut left right) (sym e) so
all_allowed m by c floats width strut left right (suc n) a b so (mid, before, step) beside =
    let both =
    beside_more floats strut mid.rows step.row (subst (λ (l : Laid). AllBeside floats strut (map ended_of l.rows)) step.after beside) in
    subst (Allowed m by c floats width strut left right) (sym step.after)
    (allowed_more m by c floats width strut left right mid step.row
    (all_allowed m by c floats width strut left right n a mid so before both.0) step.is both.1)

-- where the first line begins, in lines and for preferred widths
same_start : (how : Breaking) (m : BoxMeasuresValue) (by : MeasureInValue) (c : Container) (b : BoxNode) (segments : List Segment)
    → AreAsMeasured how m by segments
    → (indent_length b.style.text.text_indent).0 ≡ pos 0 ⊎ IsTrue (has_seen_line (take 1 (content_in m c segments).stretches))
    → first_start b.style.text (line_parts by segments) ≡ indent_length b.style.text.text_indent
same_start how m by c b segments are (inl none) = either (list_any is_seen (line_parts by segments))
  where
    same : no_length ≡ indent_length b.style.text.text_indent
    same = ap (λ (v : ℤ). record { 0 = v }) (sym none)

    either : (seen : Bool) → (if seen then indent_length b.style.text.text_indent else no_length) ≡ indent_length b.style.text.text_indent
    either true = refl
    either false = same
same_start how m by c b segments are (inr shown) =
    let seen : list_any is_seen (line_parts by segments) ≡ true = first_seen how m by c true segments are shown in
    ap (λ (s : Bool). if s then indent_length b.style.text.text_indent else no_length) seen

same_tab : (m : BoxMeasuresValue) (by : MeasureInValue) (c : Container) (b : BoxNode)
    → slice_get m.boxes c.place ≡ Some b → m.face ≡ by.face
    → tab_in m.face (slice_get m.boxes c.place) ≡ tab_of by.face b.style.text
same_tab m by c b is face = ap (tab_in m.face) is ∙ ap (λ (f : FaceValue). tab_of f b.style.text) face

same_width
    : (how : Breaking) (m : BoxMeasuresValue) (by : MeasureInValue) (c : Container) (b : BoxNode)
    (segments : List Segment) (left right : Length)
    (top : ℤ) (floats : List Placed) (v : LinesValue) → AreAlone how m by c b segments left right top floats v
    → width_with how (tab_in m.face (slice_get m.boxes c.place)) (indent_in c.containing (slice_get m.boxes c.place)) [] by segments
    ≡ widest how (tab_of by.face b.style.text) (first_start b.style.text (line_parts by segments))
    (lines_of how [] (line_parts by segments))
same_width how m by c b segments left right top floats v alone =
    let indent = ap (indent_in c.containing) alone.box ∙ alone.indent ∙ sym (same_start how m by c b segments alone.widths alone.seen) in
    ap (λ (t : ℤ). width_with how t (indent_in c.containing (slice_get m.boxes c.place)) [] by segments)
    (same_tab m by c b alone.box alone.face)
    ∙ ap (λ (s : Length). width_with how (tab_of by.face b.style.text) s [] by segments) indent

no_wider : (a b : ℤ) → a ≡ b → a ≤ℤ b
no_wider a b e = omega (arith, ints, e)

first_stands
    : (how : Breaking) (m : BoxMeasuresValue) (by : MeasureInValue) (c : Container) (b : BoxNode)
    (segments : List Segment) (left right : Length)
    (top : ℤ) (floats : List Placed) (v : LinesValue) (width : ℤ) → AreAlone how m by c b segments left right top floats v
    → widest how (tab_of by.face b.style.text) (first_start b.style.text (line_parts by segments))
    (lines_of how [] (line_parts by segments)) ≡ width
    → width ≤ℤ (right.0 -ℤ left.0)
    → SoFar how m
    by c floats width (content_in m c segments).strut left right (first_position (content_in m c segments) left right top floats)
first_stands how m by c b segments left right top floats v width alone same less = record {
  stands = record {
    begins = true;
    segments = segments;
    rest = refl;
    no_floats = alone.no_floats;
    widths = alone.widths;
    wide = no_wider _ _ (same_width how m by c b segments left right top floats v alone ∙ same);
    shown = at alone.seen;
    room = less;
    standing = refl;
    waiting = refl;
  };
  strut_is = refl;
  left_is = refl;
  right_is = refl;
}
  where
    at : (indent_length b.style.text.text_indent).0 ≡ pos 0 ⊎ IsTrue (has_seen_line (take 1 (content_in m c segments).stretches))
        → (indent_in c.containing (slice_get m.boxes c.place)).0 ≡ pos 0
        ⊎ IsTrue (has_seen_line (take 1 (content_in m c segments).stretches))
    at (inl none) = inl (ap (λ (v : Length). v.0) (ap (indent_in c.containing) alone.box ∙ alone.indent) ∙ none)
    at (inr shown) = inr shown

beside_rows : (floats : List Placed) (strut : Extent) (rows : List Row) (es : List Ended) → map ended_of rows ≡ es
    → All (λ (r : Ended). IsAlone floats r.top.0 (height_of strut)) es → AllBeside floats strut (map ended_of rows)
beside_rows floats strut rows es same all =
    subst (λ (xs : List Ended). AllBeside floats strut xs) (sym same)
    (recursion_from_All (λ (r : Ended). IsAlone floats r.top.0 (height_of strut)) es all)

pub preferred_width_lem : PreferredWidthBreaksNothing
preferred_width_lem m by c b segments left right top floats v alone more less =
    let content = content_in m c segments in
    let ss = stretches_of m c true segments in
    let width = (inline_widths by b.style.text segments).preferred.0 in
    let lines = alone.lines in
    let start : Forced m
    by c floats (inline_widths by b.style.text segments).preferred.0 (content_in m c segments).strut left right
    (stretches_of m c true segments)
    (record { rows = []; position = first_position (content_in m c segments) left right top floats }) =
    record {
      so_far = first_stands breaking.WhereForced m by c b segments left right top floats v width alone refl less;
      more = more;
      rest = refl;
      ended = tt;
    } in
    let end = all_forced m by c floats width content.strut left right ss lines.are.count _ lines.laid start lines.are.rows
    (beside_rows floats content.strut lines.laid.rows v.rows lines.rows alone.beside) in
    subst (λ (es : List Ended). BreakWhereForced (stretches_of m c true segments) es) lines.rows
    (all_ended (stretches_of m c true segments) (map ended_of lines.laid.rows) end.ended (end.rest ∙ lines.are.all))

pub minimum_width_lem : MinimumWidthHoldsEachLine
minimum_width_lem m by c b segments left right top floats v alone less =
    let content = content_in m c segments in
    let width = (inline_widths by b.style.text segments).minimum.0 in
    let lines = alone.lines in
    let start : Allowed m by c floats (inline_widths by b.style.text segments).minimum.0 (content_in m c segments).strut left right
    (record { rows = []; position = first_position (content_in m c segments) left right top floats }) =
    record {
      so_far = first_stands breaking.WhereAllowed m by c b segments left right top floats v width alone refl less;
      held_all = All-nil (λ (e : Ended). e.reach.pen.visible.0 ≤ℤ (right.0 -ℤ left.0));
    } in
    let end = all_allowed m by c floats width content.strut left right lines.are.count _ lines.laid start lines.are.rows
    (beside_rows floats content.strut lines.laid.rows v.rows lines.rows alone.beside) in
    subst (λ (es : List Ended). All (λ (e : Ended). e.reach.pen.visible.0 ≤ℤ (right.0 -ℤ left.0)) es) lines.rows end.held_all
