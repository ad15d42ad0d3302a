-- An absolutely positioned box has used offsets, margins and a size: four of the five values are given, and the equation gives the
-- fifth.
use Rattle.std.proofs.Common.{◌≡◌, ℤ, pos, ◌+ℤ◌, ◌-ℤ◌, refl, Option, Some, None, arith}
use Rattle.std.proofs.lemmas.Int.{ints, by_lt_z}
use Rattle.lay_units.specs.Units.{clamp_of, clamp_size_of}
use Rattle.lay_units.specs.declared.length.Unit.{Unit}
use Rattle.lay_units.specs.declared.records.AbsOut.{AbsOut}
use Rattle.lay_units.specs.declared.records.BlockIn.{BlockIn}
use Rattle.lay_units.specs.declared.records.Len.{Len}
use Rattle.lay_units.specs.declared.records.Len.TheVariants.{Auto as auto, Of as of}
use Rattle.lay_widths.specs.Lengths.{edges_of, or_zero}
use Rattle.lay_widths.specs.MinMax.{AtLeast, AtMost, IsBounded}
use Rattle.lay_abspos.specs.declared.axis.Axis.{Axis}
use Rattle.lay_abspos.specs.declared.axis.Offsets.{Offsets}
use Rattle.lay_abspos.specs.AbsoluteAxis.{Cases, SolvesAxis, across, available_beside, first_share_of, fitting, axis_width_in}
use Rattle.lay_abspos.specs.Laws.{SomeUsedAxis}

abbrev right_following : BlockIn → (left margin_left width margin_right : ℤ) → Offsets
right_following b left margin_left width margin_right = record {
  left = left;
  margin_left = margin_left;
  width = width;
  margin_right = margin_right;
  right = b.containing_width.0 -ℤ (left +ℤ margin_left +ℤ edges_of b +ℤ width +ℤ margin_right);
}

abbrev left_following : BlockIn → (margin_left width margin_right right : ℤ) → Offsets
left_following b margin_left width margin_right right = record {
  left = b.containing_width.0 -ℤ (margin_left +ℤ edges_of b +ℤ width +ℤ margin_right +ℤ right);
  margin_left = margin_left;
  width = width;
  margin_right = margin_right;
  right = right;
}

abbrev width_following : BlockIn → (left margin_left margin_right right : ℤ) → Offsets
width_following b left margin_left margin_right right = record {
  left = left;
  margin_left = margin_left;
  width = b.containing_width.0 -ℤ (left +ℤ margin_left +ℤ edges_of b +ℤ margin_right +ℤ right);
  margin_right = margin_right;
  right = right;
}

abbrev margin_left_following : BlockIn → (left width margin_right right : ℤ) → Offsets
margin_left_following b left width margin_right right = record {
  left = left;
  margin_left = b.containing_width.0 -ℤ (left +ℤ edges_of b +ℤ width +ℤ margin_right +ℤ right);
  width = width;
  margin_right = margin_right;
  right = right;
}

abbrev margin_right_following : BlockIn → (left margin_left width right : ℤ) → Offsets
margin_right_following b left margin_left width right = record {
  left = left;
  margin_left = margin_left;
  width = width;
  margin_right = b.containing_width.0 -ℤ (left +ℤ margin_left +ℤ edges_of b +ℤ width +ℤ right);
  right = right;
}

right_fills : (b : BlockIn) (left margin_left width margin_right : ℤ) → across b (right_following b left margin_left width margin_right) ≡ b.containing_width.0
right_fills b left margin_left width margin_right = omega (arith, ints)

left_fills : (b : BlockIn) (margin_left width margin_right right : ℤ) → across b (left_following b margin_left width margin_right right) ≡ b.containing_width.0
left_fills b margin_left width margin_right right = omega (arith, ints)

width_fills : (b : BlockIn) (left margin_left margin_right right : ℤ) → across b (width_following b left margin_left margin_right right) ≡ b.containing_width.0
width_fills b left margin_left margin_right right = omega (arith, ints)

margin_left_fills : (b : BlockIn) (left width margin_right right : ℤ) → across b (margin_left_following b left width margin_right right) ≡ b.containing_width.0
margin_left_fills b left width margin_right right = omega (arith, ints)

margin_right_fills : (b : BlockIn) (left margin_left width right : ℤ) → across b (margin_right_following b left margin_left width right) ≡ b.containing_width.0
margin_right_fills b left margin_left width right = omega (arith, ints)

-- values that fill the containing block under these cases
abbrev SomeCase : Axis → (left computed right : Len) → Type 0
SomeCase a left computed right = (used : Offsets) × (across a.block used ≡ a.block.containing_width.0) × Cases a left computed right used

module _ (a : Axis) where
  abbrev b : BlockIn
  b = a.block

  abbrev margin_left : ℤ
  margin_left = or_zero a.block.margin_left

  abbrev margin_right : ℤ
  margin_right = or_zero a.block.margin_right

  -- of auto margins that share the rest margin-left is rounded down, and margin-right follows
  given_all : (left width right : Unit) (before behind : Len) → a.block.margin_left ≡ before → a.block.margin_right ≡ behind → SomeCase a (of left) (of width) (of right)
  given_all left width right auto auto p q =
      let share : ℤ = first_share_of a.content (available_beside b left.0 right.0 -ℤ width.0) in
      (margin_right_following b left.0 share width.0 right.0, margin_right_fills b left.0 share width.0 right.0, (refl, refl, rw (p, q) (refl, refl)))
  given_all left width right auto (of margin) p q =
      (margin_left_following b left.0 width.0 margin.0 right.0, margin_left_fills b left.0 width.0 margin.0 right.0, (refl, refl, rw (p, q) (refl, refl)))
  given_all left width right (of margin) auto p q =
      (margin_right_following b left.0 margin.0 width.0 right.0, margin_right_fills b left.0 margin.0 width.0 right.0, (refl, refl, rw (p, q) (refl, refl)))
  given_all left width right (of first) (of last) p q =
      (right_following b left.0 first.0 width.0 last.0, right_fills b left.0 first.0 width.0 last.0, (refl, refl, rw (p, q) (refl, refl)))

  -- the width follows, where there is room for one
  some_width : (left right : Unit) → SomeCase a (of left) auto (of right)
  some_width left right = by_lt_z (available_beside b left.0 right.0) (pos 0)
      (λ none. (
        right_following b left.0 margin_left (pos 0) margin_right,
        right_fills b left.0 margin_left (pos 0) margin_right,
        (record { margin_left = refl; margin_right = refl }, refl, (λ room. absurd (omega (arith, ints))), (λ less. refl)),
      ))
      (λ room. (
        width_following b left.0 margin_left margin_right right.0,
        width_fills b left.0 margin_left margin_right right.0,
        (record { margin_left = refl; margin_right = refl }, refl, (λ more. refl), (λ less. absurd (omega (arith, ints)))),
      ))

  some_case : (left computed right : Len) → SomeCase a left computed right
  some_case auto auto auto =
      let width : ℤ = fitting a a.static_left.0 (pos 0) in
      (right_following b a.static_left.0 margin_left width margin_right, right_fills b a.static_left.0 margin_left width margin_right, (record { margin_left = refl; margin_right = refl }, refl, refl))
  some_case (of left) (of width) (of right) = given_all left width right a.block.margin_left a.block.margin_right refl refl
  some_case auto auto (of right) =
      let width : ℤ = fitting a (pos 0) right.0 in
      (left_following b margin_left width margin_right right.0, left_fills b margin_left width margin_right right.0, (record { margin_left = refl; margin_right = refl }, refl, refl))
  some_case auto (of width) auto =
      (right_following b a.static_left.0 margin_left width.0 margin_right, right_fills b a.static_left.0 margin_left width.0 margin_right, (record { margin_left = refl; margin_right = refl }, refl, refl))
  some_case (of left) auto auto =
      let width : ℤ = fitting a left.0 (pos 0) in
      (right_following b left.0 margin_left width margin_right, right_fills b left.0 margin_left width margin_right, (record { margin_left = refl; margin_right = refl }, refl, refl))
  some_case auto (of width) (of right) =
      (left_following b margin_left width.0 margin_right right.0, left_fills b margin_left width.0 margin_right right.0, (record { margin_left = refl; margin_right = refl }, refl, refl))
  some_case (of left) auto (of right) = some_width left right
  some_case (of left) (of width) auto =
      (right_following b left.0 margin_left width.0 margin_right, right_fills b left.0 margin_left width.0 margin_right, (record { margin_left = refl; margin_right = refl }, refl, refl))

  some_solution : (computed : Len) → (used : Offsets) × SolvesAxis a computed used
  some_solution computed = let found = some_case a.left computed a.right in (found.0, record { equation = found.1; cases = found.2 })

-- where rules give something for each computed width, they do so within bounds
module _ {U : Type 0} (width : U → ℤ) (Rules : Len → U → Type 0) (some : (computed : Len) → (used : U) × Rules computed used) where
  some_at_most : (max : Option Unit) (before : U) → (used : U) × AtMost width Rules max before used
  some_at_most None before = (before, refl)
  some_at_most (Some max) before = by_lt_z max.0 (width before)
      (λ over. (let found = some (of max) in (found.0, ((λ more. found.1), (λ within. absurd (omega (arith, ints)))))))
      (λ within. (before, ((λ over. absurd (omega (arith, ints))), (λ less. refl))))

  some_at_least : (min : Unit) (before : U) → (used : U) × AtLeast width Rules min before used
  some_at_least min before = by_lt_z (width before) min.0
      (λ under. (let found = some (of min) in (found.0, ((λ less. found.1), (λ within. absurd (omega (arith, ints)))))))
      (λ within. (before, ((λ under. absurd (omega (arith, ints))), (λ more. refl))))

  some_bounded : (computed : Len) (min : Unit) (max : Option Unit) → (used : U) × IsBounded width Rules computed min max used
  some_bounded computed min max =
      let tentative = some computed in
      let narrowed = some_at_most max tentative.0 in
      let used = some_at_least min narrowed.0 in
      (used.0, record { tentative = tentative.0; narrowed = narrowed.0; first = tentative.1; second = narrowed.1; third = used.1 })

abbrev held_of : Offsets → AbsOut
held_of used = record {
  left = record { 0 = clamp_of used.left };
  margin_left = record { 0 = clamp_of used.margin_left };
  width = record { 0 = clamp_size_of used.width };
  margin_right = record { 0 = clamp_of used.margin_right };
  right = record { 0 = clamp_of used.right };
}

pub some_used_axis_lem : SomeUsedAxis
some_used_axis_lem a =
    let found = some_bounded axis_width_in (SolvesAxis a) (some_solution a) a.block.width a.block.min_width a.block.max_width in
    (held_of found.0, record { used = found.0; bounded = found.1; held = record { left = refl; margin_left = refl; width = refl; margin_right = refl; right = refl } })
