use Rattle.std.specs.Int.{w128}
use Rattle.std.proofs.Common.{◌-◌, ◌*◌, ◌^◌, pos, ◌-ℤ◌, ◌*ℤ◌, to_z, of_z, arith}
use Rattle.std.proofs.lemmas.Int.{ints, clamps}
use Rattle.lay_grid.proofs.Products.{product_least, from_max, from_zero_below}
use Rattle.lay_grid.proofs.given_widths.divided_width.Goals as goal

pub returns-clause-value : goal.returns-clause-value
returns-clause-value c =
    let m = c.max.ensures.value in let v = c.spacings.ensures.value in let a = c.spacings.ensures.within.0 in let b = c.spacings.ensures.within.1 in
    let e = c.from.ensures in let p = c.requires.width.0 in let q = c.requires.width.1 in
    from_max (c.args.width.0 -ℤ (c.args.spacing.0 *ℤ pos (c.args.span - 1))) (to_z w128 (of_z w128 c.max.result))
    (omega (arith, ints, clamps, m, v, a, b, e, p, q))

pub returns-clause-below : goal.returns-clause-below
returns-clause-below c =
    let m = c.max.ensures.value in let v = c.spacings.ensures.value in let a = c.spacings.ensures.within.0 in let b = c.spacings.ensures.within.1 in
    let e = c.from.ensures in let p = c.requires.width.0 in let q = c.requires.width.1 in let s = c.requires.span in
    let z = c.args.width.0 -ℤ (c.args.spacing.0 *ℤ pos (c.args.span - 1)) in
    let least = product_least c.args.spacing.0 (c.args.span - 1) c.requires.spacing in
    let value = from_max z (to_z w128 (of_z w128 c.max.result)) (omega (arith, ints, clamps, m, v, a, b, e, p, q)) in
    let below = from_zero_below z ((2 ^ 62 - 1) * c.args.span) (omega (arith, ints, least, p, q, s)) in
    omega (arith, value, below)
