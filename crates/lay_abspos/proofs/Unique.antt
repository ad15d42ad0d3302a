-- An absolutely positioned box has one set of used values.
use Rattle.std.proofs.Common.{◌≡◌, ℤ, pos, refl, sym, ◌∙◌, subst, arith}
use Rattle.std.proofs.lemmas.Int.{ints, by_lt_z}
use Rattle.lay_units.specs.declared.records.Len.{Len}
use Rattle.lay_units.specs.declared.records.Len.TheVariants.{Auto as auto, Of as of}
use Rattle.lay_units.specs.declared.records.AbsOut.{AbsOut}
use Rattle.lay_units.specs.declared.records.BlockIn.{BlockIn}
use Rattle.lay_abspos.proofs.Cited.{bounded_same}
use Rattle.lay_abspos.specs.declared.axis.Axis.{Axis}
use Rattle.lay_abspos.specs.declared.axis.Offsets.{Offsets}
use Rattle.lay_abspos.specs.AbsoluteAxis.{across, available_beside, Cases, GivenAll, SolvesAxis, AreHeldOffsets, axis_width_in}
use Rattle.lay_abspos.specs.Laws.{OneUsedAxis}

abbrev offsets_of : ℤ → ℤ → ℤ → ℤ → ℤ → Offsets
offsets_of left margin_left width margin_right right =
    record { left = left; margin_left = margin_left; width = width; margin_right = margin_right; right = right }

same_offsets : (s t : Offsets) → s.left ≡ t.left → s.margin_left ≡ t.margin_left → s.width ≡ t.width → s.margin_right ≡ t.margin_right → s.right ≡ t.right → s ≡ t
same_offsets s t l ml w mr r =
    let e : offsets_of s.left s.margin_left s.width s.margin_right s.right ≡ offsets_of t.left t.margin_left t.width t.margin_right t.right = rw (l, ml, w, mr, r) refl in
    e

-- of the five values any four give the fifth
right_same : (b : BlockIn) (s t : Offsets) → across b s ≡ b.containing_width.0 → across b t ≡ b.containing_width.0 → s.left ≡ t.left → s.margin_left ≡ t.margin_left → s.width ≡ t.width → s.margin_right ≡ t.margin_right → s ≡ t
right_same b s t es et l ml w mr = same_offsets s t l ml w mr (omega (arith, ints))

left_same : (b : BlockIn) (s t : Offsets) → across b s ≡ b.containing_width.0 → across b t ≡ b.containing_width.0 → s.margin_left ≡ t.margin_left → s.width ≡ t.width → s.margin_right ≡ t.margin_right → s.right ≡ t.right → s ≡ t
left_same b s t es et ml w mr r = same_offsets s t (omega (arith, ints)) ml w mr r

width_same : (b : BlockIn) (s t : Offsets) → across b s ≡ b.containing_width.0 → across b t ≡ b.containing_width.0 → s.left ≡ t.left → s.margin_left ≡ t.margin_left → s.margin_right ≡ t.margin_right → s.right ≡ t.right → s ≡ t
width_same b s t es et l ml mr r = same_offsets s t l ml (omega (arith, ints)) mr r

margin_left_same : (b : BlockIn) (s t : Offsets) → across b s ≡ b.containing_width.0 → across b t ≡ b.containing_width.0 → s.left ≡ t.left → s.width ≡ t.width → s.margin_right ≡ t.margin_right → s.right ≡ t.right → s ≡ t
margin_left_same b s t es et l w mr r = same_offsets s t l (omega (arith, ints)) w mr r

margin_right_same : (b : BlockIn) (s t : Offsets) → across b s ≡ b.containing_width.0 → across b t ≡ b.containing_width.0 → s.left ≡ t.left → s.margin_left ≡ t.margin_left → s.width ≡ t.width → s.right ≡ t.right → s ≡ t
margin_right_same b s t es et l ml w r = same_offsets s t l ml w (omega (arith, ints)) r

given_all_same : (a : Axis) (left right : Len) (at : ℤ) (s t : Offsets) → across a.block s ≡ a.block.containing_width.0 → across a.block t ≡ a.block.containing_width.0 → s.left ≡ t.left → s.width ≡ t.width → GivenAll a left right at s → GivenAll a left right at t → s ≡ t
given_all_same a (of left) (of right) at s t es et l w p q = right_same a.block s t es et l (p.0 ∙ sym q.0) w (p.1 ∙ sym q.1)
given_all_same a (of left) auto at s t es et l w p q = margin_right_same a.block s t es et l (p.1 ∙ sym q.1) w (p.0 ∙ sym q.0)
given_all_same a auto (of right) at s t es et l w p q = margin_left_same a.block s t es et l w (p.1 ∙ sym q.1) (p.0 ∙ sym q.0)
given_all_same a auto auto at s t es et l w p q =
    margin_right_same a.block s t es et l (p.1 ∙ (rw (l, w) (sym q.1))) w (p.0 ∙ sym q.0)

solution_same : (a : Axis) (left computed right : Len) (s t : Offsets) → across a.block s ≡ a.block.containing_width.0 → across a.block t ≡ a.block.containing_width.0 → Cases a left computed right s → Cases a left computed right t → s ≡ t
solution_same a auto auto auto s t es et p q = right_same a.block s t es et (p.1 ∙ sym q.1) (p.0.margin_left ∙ sym q.0.margin_left) (p.2 ∙ sym q.2) (p.0.margin_right ∙ sym q.0.margin_right)
solution_same a (of left) (of width) (of right) s t es et p q = given_all_same a a.block.margin_left a.block.margin_right right.0 s t es et (p.0 ∙ sym q.0) (p.1 ∙ sym q.1) p.2 q.2
solution_same a auto auto (of right) s t es et p q = left_same a.block s t es et (p.0.margin_left ∙ sym q.0.margin_left) (p.2 ∙ sym q.2) (p.0.margin_right ∙ sym q.0.margin_right) (p.1 ∙ sym q.1)
solution_same a auto (of width) auto s t es et p q = right_same a.block s t es et (p.1 ∙ sym q.1) (p.0.margin_left ∙ sym q.0.margin_left) (p.2 ∙ sym q.2) (p.0.margin_right ∙ sym q.0.margin_right)
solution_same a (of left) auto auto s t es et p q = right_same a.block s t es et (p.1 ∙ sym q.1) (p.0.margin_left ∙ sym q.0.margin_left) (p.2 ∙ sym q.2) (p.0.margin_right ∙ sym q.0.margin_right)
solution_same a auto (of width) (of right) s t es et p q = left_same a.block s t es et (p.0.margin_left ∙ sym q.0.margin_left) (p.1 ∙ sym q.1) (p.0.margin_right ∙ sym q.0.margin_right) (p.2 ∙ sym q.2)
solution_same a (of left) auto (of right) s t es et p q =
    let l = p.1 ∙ sym q.1 in
    let ml = p.0.margin_left ∙ sym q.0.margin_left in
    let mr = p.0.margin_right ∙ sym q.0.margin_right in
    by_lt_z (available_beside a.block left.0 right.0) (pos 0)
    (λ none. right_same a.block s t es et l ml (p.3 none ∙ sym (q.3 none)) mr)
    (λ room. width_same a.block s t es et l ml mr (p.2 room ∙ sym (q.2 room)))
solution_same a (of left) (of width) auto s t es et p q = right_same a.block s t es et (p.1 ∙ sym q.1) (p.0.margin_left ∙ sym q.0.margin_left) (p.2 ∙ sym q.2) (p.0.margin_right ∙ sym q.0.margin_right)

axis_same : (a : Axis) (computed : Len) (s t : Offsets) → SolvesAxis a computed s → SolvesAxis a computed t → s ≡ t
axis_same a computed s t p q = solution_same a a.left computed a.right s t p.equation q.equation p.cases q.cases

abbrev out_of : ℤ → ℤ → ℤ → ℤ → ℤ → AbsOut
out_of left margin_left width margin_right right =
    record { left = record { 0 = left }; margin_left = record { 0 = margin_left }; width = record { 0 = width }; margin_right = record { 0 = margin_right }; right = record { 0 = right } }

held_same : (s t : Offsets) (x y : AbsOut) → s ≡ t → AreHeldOffsets s x → AreHeldOffsets t y → x ≡ y
held_same s t x y same p q =
    let h : AreHeldOffsets s y = subst (λ (u : Offsets). AreHeldOffsets u y) (sym same) q in
    let l = p.left ∙ sym h.left in
    let ml = p.margin_left ∙ sym h.margin_left in
    let w = p.width ∙ sym h.width in
    let mr = p.margin_right ∙ sym h.margin_right in
    let r = p.right ∙ sym h.right in
    let e : out_of x.left.0 x.margin_left.0 x.width.0 x.margin_right.0 x.right.0 ≡ out_of y.left.0 y.margin_left.0 y.width.0 y.margin_right.0 y.right.0 = rw (l, ml, w, mr, r) refl in
    e

pub one_used_axis_lem : OneUsedAxis
one_used_axis_lem a x y p q =
    held_same p.used q.used x y (bounded_same axis_width_in (SolvesAxis a) (axis_same a) a.block.width a.block.min_width a.block.max_width p.used q.used p.bounded q.bounded) p.held q.held
