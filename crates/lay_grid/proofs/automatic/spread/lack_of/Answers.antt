use Rattle.std.specs.Int.{w128}
use Rattle.std.proofs.Common.{◌-ℤ◌, to_z, of_z, arith}
use Rattle.std.proofs.lemmas.Int.{ints, clamps}
use Rattle.lay_grid.proofs.Products.{from_max}
use Rattle.lay_grid.specs.Automatic.Spread.{found_in}
use Rattle.lay_grid.proofs.automatic.spread.lack_of.Goals as goal

pub overflow_cast-result : goal.overflow_cast-result
overflow_cast-result c =
    let m = c.max.ensures.value in let e = c.from.ensures in let w0 = c.requires.cell.width.0 in let w1 = c.requires.cell.width.1 in
    let a0 = c.spacings-between.ensures.least in let a1 = c.spacings-between.ensures.most in
    let b0 = c.sum_over.ensures.least in let b1 = c.sum_over.ensures.most in
    (omega (arith, ints, clamps, m, e, w0, w1, a0, a1, b0, b1), omega (arith, ints, clamps, m, e, w0, w1, a0, a1, b0, b1))

pub returns-clause-value : goal.returns-clause-value
returns-clause-value c =
    let m = c.max.ensures.value in let e = c.from.ensures in let w0 = c.requires.cell.width.0 in let w1 = c.requires.cell.width.1 in
    let a = c.spacings-between.ensures.value in let a0 = c.spacings-between.ensures.least in let a1 = c.spacings-between.ensures.most in
    let b = c.sum_over.ensures.value in let b0 = c.sum_over.ensures.least in let b1 = c.sum_over.ensures.most in
    from_max (c.args.cell.width.0 -ℤ found_in c.args.spacing.0 c.args.cell c.args.widths.now) (to_z w128 (of_z w128 c.max.result))
    (omega (arith, ints, clamps, m, e, w0, w1, a, a0, a1, b, b0, b1))

pub returns-clause-below : goal.returns-clause-below
returns-clause-below c =
    let m = c.max.ensures.value in let e = c.from.ensures in let w0 = c.requires.cell.width.0 in let w1 = c.requires.cell.width.1 in
    let a0 = c.spacings-between.ensures.least in let a1 = c.spacings-between.ensures.most in
    let b0 = c.sum_over.ensures.least in let b1 = c.sum_over.ensures.most in
    omega (arith, ints, clamps, m, e, w0, w1, a0, a1, b0, b1)
