use Rattle.std.proofs.Common.{◌≡◌, ◌+◌, length, ap, arith}
use Rattle.std.proofs.lemmas.Int.{ints, clamps}
use Rattle.lay_grid.proofs.heights.with_total.Goals as goal

pub returns : goal.returns
returns c =
    let e = ap length c.as_slice.ensures in
    let m = c.max.ensures.value in let f = c.from.ensures in
    let v = c.sum_from.ensures.value in let a = c.sum_from.ensures.within.0 in let b = c.sum_from.ensures.within.1 in
    let p = c.requires.total.0 in let q = c.requires.total.1 in let s = c.requires.height.0 in let t = c.requires.height.1 in
    let same : length c.args.above.now + 1 ≡ length c.args.r.now.own = omega (arith, e) in
    record {
      up = omega (arith, ints, clamps, m, f, a, b, p, q, s, t);
      total = λ last. omega (arith, ints, clamps, m, f, v, a, b, p, q, s, t);
      least = λ other up enough. let l = enough same in omega (arith, ints, clamps, m, f, v, a, b, p, q, s, t, l, up);
    }
