use Rattle.std.specs.Int.{w128}
use Rattle.std.proofs.Common.{◌≡◌, pos, FitsSigned, rules, arith, refl, ap, ◌∙◌}
use Rattle.std.proofs.lemmas.Int.{ints, to_z-of_z}
use Rattle.lay_units.specs.Units.{half_of}
use Rattle.lay_widths.specs.Lengths.{or_zero}
use Rattle.lay_widths.proofs.Given.{left_given, both_auto}
use Rattle.lay_widths.proofs.block.given_width.Goals as goal

pub returns-in-Of-default-clause-widths : goal.returns-in-Of-default-clause-widths
returns-in-Of-default-clause-widths c =
    let e = c.margin_right_follows-in-Of-default.ensures in
    left_given _ _ _ _ c.in-Of-default.is-0 (omega (arith, ints, e.width)) (omega (arith, ints, e.left))

pub returns-in-Auto-Of-clause-equation : goal.returns-in-Auto-Of-clause-equation
returns-in-Auto-Of-clause-equation c =
    let l : or_zero c.args.block.now.margin_left ≡ pos 0 = rw c.in-Auto-Of.is-0 refl in
    let r : or_zero c.args.block.now.margin_right ≡ c.in-Auto-Of.right.0 = rw c.in-Auto-Of.is-1 refl in
    omega (arith, ints, l, r)

pub returns-in-Auto-Auto-clause-widths : goal.returns-in-Auto-Auto-clause-widths
returns-in-Auto-Auto-clause-widths c =
    let half : FitsSigned w128 c.floor_half.result = search rules in
    let room : FitsSigned w128 c.room_beside-room.result = search rules in
    let width : FitsSigned w128 c.args.width = c.ranges.width in
    let e = simp to_z-of_z at c.margin_right_follows-in-Auto-Auto.ensures in
    let h = simp to_z-of_z at c.floor_half.ensures in
    let v = simp to_z-of_z at c.room_beside-room.ensures.value in
    both_auto _ _ _ c.in-Auto-Auto.is-0 c.in-Auto-Auto.is-1 (omega (arith, ints)) e.width (e.left ∙ h ∙ ap half_of v)
