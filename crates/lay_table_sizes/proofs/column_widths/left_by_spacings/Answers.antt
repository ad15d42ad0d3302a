use Rattle.std.proofs.Common.{◌≡◌, ◌+◌, ℤ, pos, ◌-ℤ◌, ◌*ℤ◌, to_z, of_z, w64, refl, arith}
use Rattle.std.specs.Int.{int_max, w128}
use Rattle.std.proofs.lemmas.Int.{ints, clamps}
use Rattle.lay_table_sizes.proofs.column_widths.left_by_spacings.Goals as goal

pub returns : goal.returns
returns c =
    let m = c.max.ensures.value in let v = c.all_spacings.ensures.value in let a = c.all_spacings.ensures.least in let b = c.all_spacings.ensures.most in
    let e = c.from.ensures in let p = c.requires.table.0 in let q = c.requires.table.1 in
    let same : to_z w64 (of_z w64 (to_z w128 (of_z w128 c.max.result))) ≡ int_max (pos 0) (c.args.table.0 -ℤ (c.args.spacing.0 *ℤ pos (c.args.columns + 1))) =
    omega (arith, ints, clamps, m, v, a, b, e, p, q) in
    rw same refl
