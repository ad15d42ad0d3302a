-- The edges of an inline box without percentages.
use Rattle.std.proofs.Common.{◌≡◌, zero, suc, ℤ, pos, negsuc, ◌+ℤ◌, Bool, true, false}
use Rattle.std.proofs.Common.{◌&&◌, ◌||◌, not, if◌then◌else◌, refl, sym, ap, ◌∙◌, arith}
use Rattle.std.proofs.lemmas.Bool.{ne_eqb, or_left, or_right}
use Rattle.std.proofs.lemmas.Int.{ints, clamps}
use Rattle.lay_units.specs.Units.{clamp_of}
use Rattle.lay_units.specs.declared.length.Unit.{Unit as Length}
use Rattle.lay_units.specs.declared.records.Sides.{Sides}
use Rattle.lay_units.specs.Lengths.{is_nonzero, no_length}
use Rattle.lay_style.specs.LengthValues.{size_of}
use Rattle.lay_style.specs.declared.style.Style.{Style}
use Rattle.lay_style.specs.declared.style_lengths.LengthPercentage.{LengthPercentage}
use Rattle.lay_style.specs.declared.style_lengths.LengthPercentage.TheVariants as measure
use Rattle.lay_style.specs.declared.style_lengths.LengthPercentageOrAuto.{LengthPercentageOrAuto}
use Rattle.lay_style.specs.declared.style_lengths.LengthPercentageOrAuto.TheVariants as or_auto
use Rattle.lay_box_tree.specs.declared.inline_part.InlinePart.{InlinePart}
use Rattle.lay_sizes.specs.declared.sizing.BoxSizes.{BoxSizes}
use Rattle.lay_sizes.specs.declared.sizing.ContainingBlock.{ContainingBlock}
use Rattle.lay_sizes.specs.declared.sizing.WidthRule.TheVariants.{Inline}
use Rattle.lay_sizes.specs.BoxSizes.{IsSized}
use Rattle.lay_sizes.specs.SizeColumns.{sizes_at}
use Rattle.lay_sizes.specs.UsedLengths.{edge_of, or_zero, used_margin, used_size}
use Rattle.lay_line_measures.specs.BoxMeasuresValue.{part_at as line_part_at}
use Rattle.lay_line_measures.specs.InlineBoxes.{shows_left_edge as shows_left, shows_right_edge as shows_right}
use Rattle.lay_line_measures.specs.InlineBoxes.{shows_vertical_edge as shows_above_or_below}
use Rattle.lay_measure.specs.Contributions.{left_edges, margin_or_zero, right_edges, size_or_zero}
use Rattle.lay_measure.specs.declared.line_parts.LinePart.TheVariants as part
use Rattle.lay_measure.specs.LineParts.{end_in, end_of, has_left_edges, has_right_edges, has_vertical_edges, start_in, start_of}
use Rattle.lay_measure.specs.MeasureInValue.{part_at}
use Rattle.lay_flow_boxes.specs.Words.InlineEdges.{HasLengthsAround, InlineEdgesAreAsMeasured, IsLength, IsLengthOrAuto}
use Rattle.lay_flow_boxes.specs.Words.LinesAlone.{AreEdgesAlone}

-- used lengths without percentages
same_margin : (containing : Length) (v : LengthPercentageOrAuto) → IsLengthOrAuto v → or_zero (used_margin containing v) ≡ margin_or_zero v
same_margin containing or_auto.Auto is = refl
same_margin containing (or_auto.Length u) is = refl
same_margin containing (or_auto.Percent h) is = absurd is

held_twice : (v : ℤ) → clamp_of (clamp_of v) ≡ clamp_of v
held_twice v = omega (arith, ints, clamps)

pub held_margin : (v : LengthPercentageOrAuto) → clamp_of (margin_or_zero v).0 ≡ (margin_or_zero v).0
held_margin or_auto.Auto = omega (arith, ints, clamps)
held_margin (or_auto.Length u) = held_twice u.0
held_margin (or_auto.Percent h) = omega (arith, ints, clamps)

pub same_padding : (containing : Length) (v : LengthPercentage) → IsLength v → used_size containing v ≡ size_or_zero v
same_padding containing (measure.Length u) is = refl
same_padding containing (measure.Percent h) is = absurd is

-- a border and a padding
pub same_edge : (containing border : Length) (v : LengthPercentage) (edge : Length) → edge ≡ edge_of containing border v → IsLength v
    → edge.0 ≡ (size_of border.0).0 +ℤ (size_or_zero v).0
same_edge containing border v edge e is =
    ap (λ (l : Length). l.0) e ∙ ap (λ (l : Length). (size_of border.0).0 +ℤ l.0) (same_padding containing v is)

together : (a b c m e : ℤ) → m ≡ a → e ≡ b +ℤ c → a +ℤ b +ℤ c ≡ m +ℤ e
together a b c m e p q = omega (arith, ints, p, q)

together_behind : (a b c m e : ℤ) → m ≡ a → e ≡ b +ℤ c → a +ℤ b +ℤ c ≡ e +ℤ m
together_behind a b c m e p q = omega (arith, ints, p, q)

some_of_sum : (a b v : ℤ) → v ≡ a +ℤ b → is_nonzero v ≡ true → (is_nonzero a || is_nonzero b) ≡ true
some_of_sum (pos (suc n)) b v e h =
    or_left (is_nonzero (pos (suc n))) (is_nonzero b) (ap (λ (z : Bool). not z) (ne_eqb (suc n) 0 (λ z. omega (arith, z))))
some_of_sum (negsuc n) b v e h = refl
some_of_sum (pos zero) b v e h = let same : v ≡ b = omega (arith, ints, e) in ap is_nonzero (sym same) ∙ h

some_same : (a v : ℤ) → v ≡ a → is_nonzero v ≡ true → is_nonzero a ≡ true
some_same a v e h = ap is_nonzero (sym e) ∙ h

two_seen : (a b c m e : ℤ) → m ≡ a → e ≡ b +ℤ c → (is_nonzero m || is_nonzero e) ≡ true
    → (is_nonzero a || is_nonzero b || is_nonzero c) ≡ true
two_seen a b c m e p q h =
    at (is_nonzero m) (is_nonzero e) (is_nonzero a) (is_nonzero b) (is_nonzero c) (some_same a m p) (some_of_sum b c e q) h
  where
    at : (m e a b c : Bool) → (m ≡ true → a ≡ true) → (e ≡ true → (b || c) ≡ true) → (m || e) ≡ true → (a || b || c) ≡ true
    at m e true b c f g h = refl
    at true e false b c f g h = absurd (let w = f refl in cc w)
    at false e false b c f g h = g h

two_seen_behind : (a b c m e : ℤ) → m ≡ a → e ≡ b +ℤ c → (is_nonzero e || is_nonzero m) ≡ true
    → (is_nonzero a || is_nonzero b || is_nonzero c) ≡ true
two_seen_behind a b c m e p q h = two_seen a b c m e p q (turned (is_nonzero e) (is_nonzero m) h)
  where
    turned : (x y : Bool) → (x || y) ≡ true → (y || x) ≡ true
    turned true true h = refl
    turned true false h = refl
    turned false y h = at y h
      where
        at : (y : Bool) → y ≡ true → (y || false) ≡ true
        at true h = refl
        at false h = h

four_seen : (m e f n a b c d g h : Bool) → (m ≡ true → a ≡ true) → (e ≡ true → (b || c) ≡ true)
    → (f ≡ true → (g || h) ≡ true) → (n ≡ true → d ≡ true)
    → (m || e || f || n) ≡ true → ((a || b || c) || (d || g || h)) ≡ true
four_seen m e f n true b c d g h p q r s w = refl
four_seen true e f n false b c d g h p q r s w = absurd (let u = p refl in cc u)
four_seen false e f n false true c d g h p q r s w = refl
four_seen false e f n false false true d g h p q r s w = refl
four_seen false true f n false false false d g h p q r s w = absurd (let u = q refl in cc u)
four_seen false false f n false false false true g h p q r s w = refl
four_seen false false f n false false false false true h p q r s w = refl
four_seen false false f n false false false false false true p q r s w = refl
four_seen false false true n false false false false false false p q r s w = absurd (let u = r refl in cc u)
four_seen false false false n false false false false false false p q r s w = s w

one_or_other : (x y u v : Bool) → (x ≡ true → u ≡ true) → (y ≡ true → v ≡ true) → (x || y) ≡ true → (u || v) ≡ true
one_or_other x y true v p q w = refl
one_or_other true y false v p q w = absurd (let u = p refl in cc u)
one_or_other false y false v p q w = q w

if_there : (f g y v : Bool) → f ≡ g → (y ≡ true → v ≡ true) → (g && y) ≡ true → (f && v) ≡ true
if_there true true y v e p w = p w
if_there true false y v e p w = absurd cc
if_there false true y v e p w = absurd cc
if_there false false y v e p w = absurd cc

-- the used sizes of such a box, by its style
record AreUsed (s : Style) (z : BoxSizes) : Type 0 where
  left_margin : z.widths.margin_left.0 ≡ (margin_or_zero s.margin.left).0
  right_margin : z.widths.margin_right.0 ≡ (margin_or_zero s.margin.right).0
  top_margin : z.margin_top.0 ≡ (margin_or_zero s.margin.top).0
  bottom_margin : z.margin_bottom.0 ≡ (margin_or_zero s.margin.bottom).0
  left_edge : z.edges.left.0 ≡ (size_of s.border.width.left.0).0 +ℤ (size_or_zero s.padding.left).0
  right_edge : z.edges.right.0 ≡ (size_of s.border.width.right.0).0 +ℤ (size_or_zero s.padding.right).0
  top_edge : z.edges.top.0 ≡ (size_of s.border.width.top.0).0 +ℤ (size_or_zero s.padding.top).0
  bottom_edge : z.edges.bottom.0 ≡ (size_of s.border.width.bottom.0).0 +ℤ (size_or_zero s.padding.bottom).0

used : (containing : ContainingBlock) (s : Style) (z : BoxSizes) → IsSized containing Inline s z → HasLengthsAround s → AreUsed s z
used containing s z is are = record {
  left_margin =
      is.widths.margin_left ∙ ap (λ (l : Length). clamp_of l.0) (same_margin containing.width s.margin.left are.margin_left)
      ∙ held_margin s.margin.left;
  right_margin =
      is.widths.margin_right ∙ ap (λ (l : Length). clamp_of l.0) (same_margin containing.width s.margin.right are.margin_right)
      ∙ held_margin s.margin.right;
  top_margin = ap (λ (l : Length). l.0) (is.margin_top ∙ same_margin containing.width s.margin.top are.margin_top);
  bottom_margin = ap (λ (l : Length). l.0) (is.margin_bottom ∙ same_margin containing.width s.margin.bottom are.margin_bottom);
  left_edge =
      same_edge containing.width s.border.width.left s.padding.left z.edges.left (ap (λ (e : Sides). e.left) is.edges) are.padding_left;
  right_edge =
      same_edge containing.width s.border.width.right s.padding.right z.edges.right
      (ap (λ (e : Sides). e.right) is.edges) are.padding_right;
  top_edge = same_edge containing.width s.border.width.top s.padding.top z.edges.top (ap (λ (e : Sides). e.top) is.edges) are.padding_top;
  bottom_edge =
      same_edge containing.width s.border.width.bottom s.padding.bottom z.edges.bottom
      (ap (λ (e : Sides). e.bottom) is.edges) are.padding_bottom;
}

vertical_seen : (s : Style) (z : BoxSizes) → AreUsed s z → shows_above_or_below z ≡ true → has_vertical_edges s ≡ true
vertical_seen s z are h =
    four_seen (is_nonzero z.margin_top.0) (is_nonzero z.edges.top.0) (is_nonzero z.edges.bottom.0) (is_nonzero z.margin_bottom.0)
    (is_nonzero (margin_or_zero s.margin.top).0) (is_nonzero (size_of s.border.width.top.0).0) (is_nonzero (size_or_zero s.padding.top).0)
    (is_nonzero (margin_or_zero s.margin.bottom).0) (is_nonzero (size_of s.border.width.bottom.0).0)
    (is_nonzero (size_or_zero s.padding.bottom).0)
    (some_same (margin_or_zero s.margin.top).0 z.margin_top.0 are.top_margin)
    (some_of_sum (size_of s.border.width.top.0).0 (size_or_zero s.padding.top).0 z.edges.top.0 are.top_edge)
    (some_of_sum (size_of s.border.width.bottom.0).0 (size_or_zero s.padding.bottom).0 z.edges.bottom.0 are.bottom_edge)
    (some_same (margin_or_zero s.margin.bottom).0 z.margin_bottom.0 are.bottom_margin) h

left_seen : (s : Style) (z : BoxSizes) → AreUsed s z → shows_left z ≡ true → has_left_edges s ≡ true
left_seen s z are h =
    two_seen (margin_or_zero s.margin.left).0 (size_of s.border.width.left.0).0
    (size_or_zero s.padding.left).0 z.widths.margin_left.0 z.edges.left.0
    are.left_margin are.left_edge h

right_seen : (s : Style) (z : BoxSizes) → AreUsed s z → shows_right z ≡ true → has_right_edges s ≡ true
right_seen s z are h =
    two_seen_behind (margin_or_zero s.margin.right).0 (size_of s.border.width.right.0).0
    (size_or_zero s.padding.right).0 z.widths.margin_right.0 z.edges.right.0
    are.right_margin are.right_edge h

start_edges : (s : Style) (z : BoxSizes) (p q : InlinePart) → AreUsed s z → p ≡ q
    → AreEdgesAlone (start_of s p) (if q.first then record { 0 = z.widths.margin_left.0 +ℤ z.edges.left.0 } else no_length)
    (shows_above_or_below z || (q.first && shows_left z))
start_edges s z p q are same =
    let first = ap (λ (f : InlinePart). f.first) same in (
      has_vertical_edges s || (p.first && has_left_edges s),
      ap (λ (f : Bool).
          part.Edge (if f then record { 0 = left_edges s } else no_length) (has_vertical_edges s || (p.first && has_left_edges s))) first
          ∙ ap (λ (v : ℤ).
          part.Edge (if q.first then record { 0 = v } else no_length) (has_vertical_edges s || (p.first && has_left_edges s)))
          (together (margin_or_zero s.margin.left).0 (size_of s.border.width.left.0).0
          (size_or_zero s.padding.left).0 z.widths.margin_left.0 z.edges.left.0
          are.left_margin are.left_edge),
      one_or_other (shows_above_or_below z) (q.first && shows_left z) (has_vertical_edges s) (p.first && has_left_edges s)
          (vertical_seen s z are) (if_there p.first q.first (shows_left z) (has_left_edges s) first (left_seen s z are)),
    )

end_edges : (s : Style) (z : BoxSizes) (p q : InlinePart) → AreUsed s z → p ≡ q
    → AreEdgesAlone (end_of s p) (if q.last then record { 0 = z.edges.right.0 +ℤ z.widths.margin_right.0 } else no_length)
    (q.last && shows_right z)
end_edges s z p q are same =
    let last = ap (λ (f : InlinePart). f.last) same in (
      has_vertical_edges s || (p.last && has_right_edges s),
      ap (λ (f : Bool).
          part.Edge (if f then record { 0 = right_edges s } else no_length) (has_vertical_edges s || (p.last && has_right_edges s))) last
          ∙ ap (λ (v : ℤ).
          part.Edge (if q.last then record { 0 = v } else no_length) (has_vertical_edges s || (p.last && has_right_edges s)))
          (together_behind (margin_or_zero s.margin.right).0 (size_of s.border.width.right.0).0
          (size_or_zero s.padding.right).0 z.widths.margin_right.0 z.edges.right.0
          are.right_margin are.right_edge),
      (λ h. or_right (has_vertical_edges s) (p.last && has_right_edges s)
          (if_there p.last q.last (shows_right z) (has_right_edges s) last (right_seen s z are) h)),
    )

pub inline_edges_lem : InlineEdgesAreAsMeasured
inline_edges_lem m by k b containing is same sized lengths =
    let are = used containing b.style (sizes_at m.sizes k) sized lengths in
    let start = start_edges b.style (sizes_at m.sizes k) (part_at by k) (line_part_at m k) are same in
    let end = end_edges b.style (sizes_at m.sizes k) (part_at by k) (line_part_at m k) are same in
    ((start.0, ap (start_in by k) is ∙ start.1, start.2), (end.0, ap (end_in by k) is ∙ end.1, end.2))
