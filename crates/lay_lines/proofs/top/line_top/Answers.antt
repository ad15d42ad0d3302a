use Rattle.std.proofs.Common.{arith}
use Rattle.std.proofs.lemmas.Int.{ints}
use Rattle.lay_lines.proofs.top.line_top.Goals as goal

pub loop-blank-preserved : goal.loop-blank-preserved
loop-blank-preserved c =
    let step = c.in-Some.ensures in
    let so_far = c.loop-blank.invariant in
    record {
      fits = step.fits;
      low = (let low = so_far.low in let lower = step.lower in omega (arith, ints, low, lower));
      least = λ z down begins. step.none_higher z begins (so_far.least z down begins);
    }
