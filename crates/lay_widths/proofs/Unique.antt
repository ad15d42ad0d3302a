-- A box has one used width and one pair of used margins.
use Rattle.std.proofs.Common.{◌≡◌, ℤ, pos, refl, sym, ◌∙◌, subst, Option, Some, None, arith}
use Rattle.std.proofs.lemmas.Int.{ints, by_lt_z}
use Rattle.lay_units.specs.declared.length.Unit.{Unit}
use Rattle.lay_units.specs.declared.records.Len.{Len}
use Rattle.lay_units.specs.declared.records.Len.TheVariants.{Auto as auto, Of as of}
use Rattle.lay_units.specs.declared.records.BlockIn.{BlockIn}
use Rattle.lay_widths.specs.declared.widths.BlockOut.{BlockOut}
use Rattle.lay_widths.specs.declared.widths.UsedWidths.{UsedWidths}
use Rattle.lay_widths.specs.Lengths.{sum_of_widths, together}
use Rattle.lay_widths.specs.BlockWidths.{GivenMargin, SolvesBlock, IsHeld, width_in}
use Rattle.lay_widths.specs.MinMax.{AtMost, AtLeast, IsBounded}
use Rattle.lay_widths.specs.FloatWidths.{SolvesFloat}
use Rattle.lay_widths.specs.declared.replaced.ReplacedSize.{ReplacedSize}
use Rattle.lay_widths.specs.Laws.{OneBlockWidth, OneFloatWidth, OneReplacedSize}

abbrev widths_of : ℤ → ℤ → ℤ → UsedWidths
widths_of left width right = record { margin_left = left; width = width; margin_right = right }

same_widths : (s t : UsedWidths) → s.margin_left ≡ t.margin_left → s.width ≡ t.width → s.margin_right ≡ t.margin_right → s ≡ t
same_widths s t l w r =
    let e : widths_of s.margin_left s.width s.margin_right ≡ widths_of t.margin_left t.width t.margin_right = rw (l, w, r) refl in
    e

-- of the three terms any two give the third
right_follows : (b : BlockIn) (s t : UsedWidths) → sum_of_widths b s ≡ b.containing_width.0 → sum_of_widths b t ≡ b.containing_width.0 → s.margin_left ≡ t.margin_left → s.width ≡ t.width → s ≡ t
right_follows b s t es et l w = same_widths s t l w (omega (arith, ints))

width_follows : (b : BlockIn) (s t : UsedWidths) → sum_of_widths b s ≡ b.containing_width.0 → sum_of_widths b t ≡ b.containing_width.0 → s.margin_left ≡ t.margin_left → s.margin_right ≡ t.margin_right → s ≡ t
width_follows b s t es et l r = same_widths s t l (omega (arith, ints)) r

left_follows : (b : BlockIn) (s t : UsedWidths) → sum_of_widths b s ≡ b.containing_width.0 → sum_of_widths b t ≡ b.containing_width.0 → s.width ≡ t.width → s.margin_right ≡ t.margin_right → s ≡ t
left_follows b s t es et w r = same_widths s t (omega (arith, ints)) w r

given_margin_same : (b : BlockIn) (left right : Len) (rest : ℤ) (s t : UsedWidths) → sum_of_widths b s ≡ b.containing_width.0 → sum_of_widths b t ≡ b.containing_width.0 → s.width ≡ t.width → GivenMargin left right rest s → GivenMargin left right rest t → s ≡ t
given_margin_same b (of left) right rest s t es et w p q = right_follows b s t es et (p ∙ sym q) w
given_margin_same b auto (of right) rest s t es et w p q = left_follows b s t es et w (p ∙ sym q)
given_margin_same b auto auto rest s t es et w p q = right_follows b s t es et (p ∙ sym q) w

solution_same : (b : BlockIn) (computed : Len) (s t : UsedWidths) → SolvesBlock b computed s → SolvesBlock b computed t → s ≡ t
solution_same b auto s t p q =
    let left = p.cases.margin_left ∙ sym q.cases.margin_left in
    by_lt_z b.containing_width.0 (together b (pos 0))
    (λ over. right_follows b s t p.equation q.equation left (p.cases.no_room over ∙ sym (q.cases.no_room over)))
    (λ room. width_follows b s t p.equation q.equation left (p.cases.room room ∙ sym (q.cases.room room)))
solution_same b (of width) s t p q =
    let w = p.cases.width_is ∙ sym q.cases.width_is in
    by_lt_z b.containing_width.0 (together b width.0)
    (λ over. right_follows b s t p.equation q.equation (p.cases.too_wide over ∙ sym (q.cases.too_wide over)) w)
    (λ fits. given_margin_same b b.margin_left b.margin_right _ s t p.equation q.equation w (p.cases.fits fits) (q.cases.fits fits))

-- rules that give one solution for each computed width
abbrev pub AreExact : {U : Type 0} → (Len → U → Type 0) → Type 0
AreExact Rules = (computed : Len) (s t : _) → Rules computed s → Rules computed t → s ≡ t

at_most_same : {U : Type 0} (width : U → ℤ) (Rules : Len → U → Type 0) → AreExact Rules → (max : Option Unit) (before s t : U) → AtMost width Rules max before s → AtMost width Rules max before t → s ≡ t
at_most_same width Rules exact None before s t p q = p ∙ sym q
at_most_same width Rules exact (Some max) before s t p q =
    by_lt_z max.0 (width before) (λ over. exact (of max) s t (p.0 over) (q.0 over)) (λ within. p.1 within ∙ sym (q.1 within))

at_least_same : {U : Type 0} (width : U → ℤ) (Rules : Len → U → Type 0) → AreExact Rules → (min : Unit) (before s t : U) → AtLeast width Rules min before s → AtLeast width Rules min before t → s ≡ t
at_least_same width Rules exact min before s t p q =
    by_lt_z (width before) min.0 (λ under. exact (of min) s t (p.0 under) (q.0 under)) (λ within. p.1 within ∙ sym (q.1 within))

pub bounded_same : {U : Type 0} (width : U → ℤ) (Rules : Len → U → Type 0) → AreExact Rules → (computed : Len) (min : Unit) (max : Option Unit) (s t : U) → IsBounded width Rules computed min max s → IsBounded width Rules computed min max t → s ≡ t
bounded_same {U} width Rules exact computed min max s t p q =
    let first = exact computed p.tentative q.tentative p.first q.first in
    let second = at_most_same width Rules exact max p.tentative p.narrowed q.narrowed p.second (subst (λ (u : U). AtMost width Rules max u q.narrowed) (sym first) q.second) in
    at_least_same width Rules exact min p.narrowed s t p.third (subst (λ (u : U). AtLeast width Rules min u t) (sym second) q.third)

abbrev out_of : ℤ → ℤ → ℤ → BlockOut
out_of left width right = record { margin_left = record { 0 = left }; width = record { 0 = width }; margin_right = record { 0 = right } }

held_same : (s t : UsedWidths) (x y : BlockOut) → s ≡ t → IsHeld s x → IsHeld t y → x ≡ y
held_same s t x y same p q =
    let h : IsHeld s y = subst (λ (u : UsedWidths). IsHeld u y) (sym same) q in
    let l = p.margin_left ∙ sym h.margin_left in
    let w = p.width ∙ sym h.width in
    let r = p.margin_right ∙ sym h.margin_right in
    let e : out_of x.margin_left.0 x.width.0 x.margin_right.0 ≡ out_of y.margin_left.0 y.width.0 y.margin_right.0 = rw (l, w, r) refl in
    e

pub one_block_width_lem : OneBlockWidth
one_block_width_lem b x y p q =
    held_same p.used q.used x y (bounded_same width_in (SolvesBlock b) (solution_same b) b.width b.min_width b.max_width p.used q.used p.bounded q.bounded) p.held q.held

float_solution_same : (b : BlockIn) (preferred_minimum preferred : Unit) (computed : Len) (s t : UsedWidths) → SolvesFloat b preferred_minimum preferred computed s → SolvesFloat b preferred_minimum preferred computed t → s ≡ t
float_solution_same b preferred_minimum preferred computed s t p q = same_widths s t (p.margin_left ∙ sym q.margin_left) (p.width ∙ sym q.width) (p.margin_right ∙ sym q.margin_right)

pub one_float_width_lem : OneFloatWidth
one_float_width_lem b preferred_minimum preferred x y p q =
    held_same p.used q.used x y (bounded_same width_in (SolvesFloat b preferred_minimum preferred) (float_solution_same b preferred_minimum preferred) b.width b.min_width b.max_width p.used q.used p.bounded q.bounded) p.held q.held

abbrev size_of : ℤ → ℤ → ReplacedSize
size_of width height = record { width = record { 0 = width }; height = record { 0 = height } }

pub one_replaced_size_lem : OneReplacedSize
one_replaced_size_lem r x y p q =
    let w = p.width ∙ sym q.width in
    let h = p.height ∙ sym q.height in
    let e : size_of x.width.0 x.height.0 ≡ size_of y.width.0 y.height.0 = rw (w, h) refl in
    e
