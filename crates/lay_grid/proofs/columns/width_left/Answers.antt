use Rattle.std.proofs.Common.{arith}
use Rattle.std.proofs.lemmas.Int.{ints, clamps}
use Rattle.lay_grid.proofs.columns.width_left.Goals as goal

pub returns-clause-value : goal.returns-clause-value
returns-clause-value c =
    let m = c.max.ensures.value in let v = c.spacings.ensures.value in let a = c.spacings.ensures.within.0 in let b = c.spacings.ensures.within.1 in
    let e = c.from.ensures in let p = c.requires.width.0 in let q = c.requires.width.1 in
    omega (arith, ints, clamps, m, v, a, b, e, p, q)

pub returns-clause-within : goal.returns-clause-within
returns-clause-within c =
    let m = c.max.ensures.value in let a = c.spacings.ensures.within.0 in let b = c.spacings.ensures.within.1 in
    let e = c.from.ensures in let p = c.requires.width.0 in let q = c.requires.width.1 in
    (omega (arith, ints, clamps, m, a, b, e, p, q), omega (arith, ints, clamps, m, a, b, e, p, q))
