-- Boxes that shrink to fit in room enough.
use Rattle.std.proofs.Common.{◌≡◌, ℤ, pos, ◌+ℤ◌, ◌-ℤ◌, ◌≤ℤ◌, ◌<ℤ◌, Option, Some, None, refl, ap, ◌∙◌, arith}
use Rattle.std.specs.Int.{int_max, int_min}
use Rattle.std.proofs.lemmas.Int.{ints, clamps, by_lt_z}
use Rattle.lay_units.specs.Units.{clamp_of, clamp_size_of, IsUsedSize}
use Rattle.lay_units.specs.declared.length.Unit.{Unit as Length}
use Rattle.lay_units.specs.declared.records.BlockIn.{BlockIn}
use Rattle.lay_units.specs.declared.records.Len.{Len}
use Rattle.lay_units.specs.declared.records.Len.TheVariants.{Of as of}
use Rattle.lay_units.specs.declared.records.Sides.{Sides}
use Rattle.lay_style.specs.LengthValues.{size_of}
use Rattle.lay_style.specs.declared.style_lengths.LengthPercentage.{LengthPercentage}
use Rattle.lay_style.specs.declared.style_lengths.LengthPercentage.TheVariants as measure
use Rattle.lay_style.specs.declared.style_lengths.LengthPercentageOrAuto.{LengthPercentageOrAuto}
use Rattle.lay_style.specs.declared.style_lengths.LengthPercentageOrAuto.TheVariants as or_auto
use Rattle.lay_style.specs.declared.style_lengths.LengthPercentageOrNone.{LengthPercentageOrNone}
use Rattle.lay_style.specs.declared.style_lengths.LengthPercentageOrNone.TheVariants as or_none
use Rattle.lay_heights.specs.MinMax.{at_least_min, at_most_max, with_min_max_of}
use Rattle.lay_widths.specs.declared.widths.UsedWidths.{UsedWidths}
use Rattle.lay_widths.specs.BlockWidths.{width_in}
use Rattle.lay_widths.specs.FloatWidths.{SolvesFloat, available_of, float_width_of}
use Rattle.lay_widths.specs.Lengths.{or_zero}
use Rattle.lay_widths.specs.MinMax.{AtLeast, AtMost, IsBounded}
use Rattle.lay_sizes.specs.UsedLengths.{block_of, used_limit, used_margin, used_width}
use Rattle.lay_flow_boxes.proofs.Cited.{size_is_used}
use Rattle.lay_measure.specs.Contributions.{bounded_width, given_or, limit_of, margin_or_zero, size_or_zero}
use Rattle.lay_flow_boxes.specs.Words.InlineEdges.{IsLengthOrAuto}
use Rattle.lay_flow_boxes.specs.Words.ShrinkingBoxes.{IsLengthOrNone, ShrinkingBoxesTakeWhatIsMeasured}
use Rattle.lay_flow_boxes.proofs.WordsLemmas.InlineEdges.{held_margin, same_edge, same_padding}

-- what the rules give, with this width
record Gives (b : BlockIn) (used : UsedWidths) (w : ℤ) : Type 0 where
  left : used.margin_left ≡ or_zero b.margin_left
  right : used.margin_right ≡ or_zero b.margin_right
  width : used.width ≡ w

by_rules : (b : BlockIn) (minimum preferred : Length) (computed : Len) (used : UsedWidths) (w : ℤ)
    → SolvesFloat b minimum preferred computed used
    → float_width_of b minimum preferred computed ≡ w → Gives b used w
by_rules b minimum preferred computed used w is e = record { left = is.margin_left; right = is.margin_right; width = is.width ∙ e }

as_before : (b : BlockIn) (before after : UsedWidths) (v w : ℤ) → Gives b before v → after ≡ before → v ≡ w → Gives b after w
as_before b before after v w is e same = record {
  left = ap (λ (u : UsedWidths). u.margin_left) e ∙ is.left;
  right = ap (λ (u : UsedWidths). u.margin_right) e ∙ is.right;
  width = ap (λ (u : UsedWidths). u.width) e ∙ is.width ∙ same;
}

-- the lesser and the greater of two
less_is : (m t w : ℤ) → m <ℤ t → t ≡ w → m ≡ int_min w m
less_is m t w less e = omega (arith, ints, clamps, less, e)

same_less : (m t w : ℤ) → t ≤ℤ m → t ≡ w → w ≡ int_min w m
same_less m t w less e = omega (arith, ints, clamps, less, e)

more_is : (m t w : ℤ) → t <ℤ m → t ≡ w → m ≡ int_max m w
more_is m t w less e = omega (arith, ints, clamps, less, e)

same_more : (m t w : ℤ) → m ≤ℤ t → t ≡ w → w ≡ int_max m w
same_more m t w less e = omega (arith, ints, clamps, less, e)

at_most : (b : BlockIn) (minimum preferred : Length) (max : Option Length) (before after : UsedWidths) (w : ℤ) → Gives b before w
    → AtMost width_in (SolvesFloat b minimum preferred) max before after → Gives b after (at_most_max w max)
at_most b minimum preferred None before after w is bounded = as_before b before after w w is bounded refl
at_most b minimum preferred (Some m) before after w is bounded =
    by_lt_z {P = Gives b after (at_most_max w (Some m))} m.0 before.width
    (λ less. by_rules b minimum preferred (of m) after (int_min w m.0) (bounded.0 less) (less_is m.0 before.width w less is.width))
    (λ more. as_before b before after w (int_min w m.0) is (bounded.1 more) (same_less m.0 before.width w more is.width))

at_least : (b : BlockIn) (minimum preferred low : Length) (before after : UsedWidths) (w : ℤ) → Gives b before w
    → AtLeast width_in (SolvesFloat b minimum preferred) low before after → Gives b after (at_least_min w low.0)
at_least b minimum preferred low before after w is bounded =
    by_lt_z {P = Gives b after (at_least_min w low.0)} before.width low.0
    (λ less. by_rules b minimum preferred (of low) after (int_max low.0 w) (bounded.0 less) (more_is low.0 before.width w less is.width))
    (λ more. as_before b before after w (int_max low.0 w) is (bounded.1 more) (same_more low.0 before.width w more is.width))

all_gives : (b : BlockIn) (minimum preferred : Length) (used : UsedWidths)
    → IsBounded width_in (SolvesFloat b minimum preferred) b.width b.min_width b.max_width used
    → Gives b used (with_min_max_of (float_width_of b minimum preferred b.width) b.min_width.0 b.max_width)
all_gives b minimum preferred used is =
    let first = by_rules b minimum preferred b.width is.tentative (float_width_of b minimum preferred b.width) is.first refl in
    let second =
    at_most b minimum preferred b.max_width is.tentative is.narrowed (float_width_of b minimum preferred b.width) first is.second in
    at_least b minimum preferred b.min_width is.narrowed used
    (at_most_max (float_width_of b minimum preferred b.width) b.max_width) second is.third

-- used lengths without percentages
same_margin : (containing : Length) (v : LengthPercentageOrAuto) → IsLengthOrAuto v
    → or_zero (used_margin containing v) ≡ (margin_or_zero v).0
same_margin containing or_auto.Auto is = refl
same_margin containing (or_auto.Length u) is = refl
same_margin containing (or_auto.Percent h) is = absurd is

same_limit : (containing : Length) (v : LengthPercentageOrNone) → IsLengthOrNone v → used_limit containing v ≡ limit_of v
same_limit containing or_none.None is = refl
same_limit containing (or_none.Length u) is = refl
same_limit containing (or_none.Percent h) is = absurd is

-- a width in room enough
enough : (least room most low : ℤ) → least ≤ℤ most → int_max low most ≤ℤ room
    → int_max low (int_min (int_max least room) most) ≡ int_max low most
enough least room most low le fits = omega (arith, ints, clamps, le, fits)

enough_bounded : (least room most low high : ℤ) → least ≤ℤ most → int_max low (int_min most high) ≤ℤ room
    → int_max low (int_min (int_min (int_max least room) most) high) ≡ int_max low (int_min most high)
enough_bounded least room most low high le fits = omega (arith, ints, clamps, le, fits)

enough_room : (least room most low : ℤ) (max : Option Length) → least ≤ℤ most → with_min_max_of most low max ≤ℤ room
    → with_min_max_of (int_min (int_max least room) most) low max ≡ with_min_max_of most low max
enough_room least room most low None le fits = enough least room most low le fits
enough_room least room most low (Some m) le fits = enough_bounded least room most low m.0 le fits

same_width : (b : BlockIn) (containing minimum preferred : Length) (v : LengthPercentageOrAuto) (low : ℤ) (max : Option Length)
    → IsLengthOrAuto v
    → minimum.0 ≤ℤ preferred.0 → with_min_max_of (given_or v preferred).0 low max ≤ℤ available_of b
    → with_min_max_of (float_width_of b minimum preferred (used_width containing v)) low max
    ≡ with_min_max_of (given_or v preferred).0 low max
same_width b containing minimum preferred or_auto.Auto low max is le fits =
    enough_room minimum.0 (available_of b) preferred.0 low max le fits
same_width b containing minimum preferred (or_auto.Length u) low max is le fits = refl
same_width b containing minimum preferred (or_auto.Percent h) low max is le fits = absurd is

-- such a width is within the bounds of used sizes
held_size : (v : ℤ) → IsUsedSize v → clamp_size_of v ≡ v
held_size v is = let a = is.0 in let b = is.1 in omega (arith, ints, clamps, a, b)

given_is_used : (v : LengthPercentageOrAuto) (preferred : Length) → IsUsedSize preferred.0 → IsUsedSize (given_or v preferred).0
given_is_used or_auto.Auto preferred is = is
given_is_used (or_auto.Length u) preferred is = size_is_used u.0
given_is_used (or_auto.Percent h) preferred is = is

low_is_used : (v : LengthPercentage) → IsUsedSize (size_or_zero v).0
low_is_used (measure.Length u) = size_is_used u.0
low_is_used (measure.Percent h) = (omega (arith, ints), omega (arith, ints))

more_is_used : (low w : ℤ) → IsUsedSize low → IsUsedSize w → IsUsedSize (int_max low w)
more_is_used low w p q =
    let a = p.0 in let b = p.1 in let c = q.0 in let d = q.1 in
    (omega (arith, ints, clamps, a, b, c, d), omega (arith, ints, clamps, a, b, c, d))

less_is_used : (high w : ℤ) → IsUsedSize high → IsUsedSize w → IsUsedSize (int_min w high)
less_is_used high w p q =
    let a = p.0 in let b = p.1 in let c = q.0 in let d = q.1 in
    (omega (arith, ints, clamps, a, b, c, d), omega (arith, ints, clamps, a, b, c, d))

bounded_is_used : (w low : ℤ) (v : LengthPercentageOrNone) → IsUsedSize w → IsUsedSize low → IsUsedSize (with_min_max_of w low (limit_of v))
bounded_is_used w low or_none.None p q = more_is_used low w q p
bounded_is_used w low (or_none.Length u) p q =
    more_is_used low (int_min w (clamp_size_of u.0)) q (less_is_used (clamp_size_of u.0) w (size_is_used u.0) p)
bounded_is_used w low (or_none.Percent h) p q = more_is_used low w q p

-- sums across
room_for : (c ml bl pl pr br mr w a d e f : ℤ) → ml ≡ a → pl ≡ d → pr ≡ e → mr ≡ f → ((a +ℤ bl +ℤ d) +ℤ w +ℤ (f +ℤ br +ℤ e)) ≤ℤ c
    → w ≤ℤ (c -ℤ (ml +ℤ bl +ℤ pl +ℤ pos 0 +ℤ pr +ℤ br +ℤ mr))
room_for c ml bl pl pr br mr w a d e f p q r s fits = omega (arith, ints, p, q, r, s, fits)

all_across : (ml w el er mr a bl d v f br e : ℤ) → ml ≡ a → w ≡ v → el ≡ bl +ℤ d → er ≡ br +ℤ e → mr ≡ f
    → ml +ℤ (w +ℤ el +ℤ er) +ℤ mr ≡ (a +ℤ bl +ℤ d) +ℤ v +ℤ (f +ℤ br +ℤ e)
all_across ml w el er mr a bl d v f br e p q r s t = omega (arith, ints, p, q, r, s, t)

pub shrinking_boxes_lem : ShrinkingBoxesTakeWhatIsMeasured
shrinking_boxes_lem s containing minimum preferred z height baseline is around across le size fits =
    let b = block_of containing.width s in
    let gives = all_gives (block_of containing.width s) minimum preferred is.widths.used is.widths.bounded in
    let left = same_margin containing.width s.margin.left around.margin_left in
    let right = same_margin containing.width s.margin.right around.margin_right in
    let padding_left = ap (λ (l : Length). l.0) (same_padding containing.width s.padding.left around.padding_left) in
    let padding_right = ap (λ (l : Length). l.0) (same_padding containing.width s.padding.right around.padding_right) in
    let room : bounded_width s preferred ≤ℤ available_of (block_of containing.width s) =
    room_for containing.width.0 (or_zero (used_margin containing.width s.margin.left))
    (size_of s.border.width.left.0).0 b.padding_left.0 b.padding_right.0
    (size_of s.border.width.right.0).0 (or_zero (used_margin containing.width s.margin.right)) (bounded_width s preferred)
    (margin_or_zero s.margin.left).0 (size_or_zero s.padding.left).0 (size_or_zero s.padding.right).0 (margin_or_zero s.margin.right).0
    left padding_left padding_right right fits in
    let bounds =
    ap (λ (l : Length).
    with_min_max_of (float_width_of (block_of containing.width s) minimum preferred (used_width containing.width s.sizing.width)) l.0
    (used_limit containing.width s.sizing.max_width))
    (same_padding containing.width s.sizing.min_width across.min_width)
    ∙ ap (λ (m : Option Length).
    with_min_max_of (float_width_of (block_of containing.width s) minimum preferred (used_width containing.width s.sizing.width))
    (size_or_zero s.sizing.min_width).0 m)
    (same_limit containing.width s.sizing.max_width across.max_width)
    ∙ same_width (block_of containing.width s) containing.width minimum preferred s.sizing.width
    (size_or_zero s.sizing.min_width).0 (limit_of s.sizing.max_width) across.width le room in
    let used =
    bounded_is_used (given_or s.sizing.width preferred).0 (size_or_zero s.sizing.min_width).0 s.sizing.max_width
    (given_is_used s.sizing.width preferred size) (low_is_used s.sizing.min_width) in
    let width : z.widths.width.0 ≡ bounded_width s preferred =
    is.widths.held.width ∙ ap clamp_size_of (gives.width ∙ bounds) ∙ held_size (bounded_width s preferred) used in
    all_across z.widths.margin_left.0 z.widths.width.0 z.edges.left.0 z.edges.right.0 z.widths.margin_right.0
    (margin_or_zero s.margin.left).0 (size_of s.border.width.left.0).0 (size_or_zero s.padding.left).0 (bounded_width s preferred)
    (margin_or_zero s.margin.right).0 (size_of s.border.width.right.0).0 (size_or_zero s.padding.right).0
    (is.widths.held.margin_left ∙ ap clamp_of (gives.left ∙ left) ∙ held_margin s.margin.left)
    width
    (same_edge containing.width s.border.width.left s.padding.left z.edges.left (ap (λ (e : Sides). e.left) is.edges) around.padding_left)
    (same_edge containing.width s.border.width.right s.padding.right z.edges.right
    (ap (λ (e : Sides). e.right) is.edges) around.padding_right)
    (is.widths.held.margin_right ∙ ap clamp_of (gives.right ∙ right) ∙ held_margin s.margin.right)
