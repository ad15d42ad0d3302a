use Rattle.std.proofs.Common.{arith, refl, string_bytes}
use Rattle.lay_drawing.proofs.Digits.{one_more, zero_left, all_written}
use Rattle.lay_drawing.proofs.pixels.push_digits.Goals as goal

pub loop-init : goal.loop-init
loop-init c = record { low = omega arith; digits = (6, omega arith, refl) }

pub returns-then-left-eq0 : goal.returns-then-left-eq0
returns-then-left-eq0 c = let d = c.loop.invariant.digits in zero_left (string_bytes c.loop.text) _ d.0 c.loop.left c.if-left-eq0.true d.2

pub loop-preserved : goal.loop-preserved
loop-preserved c =
    let d = c.loop.invariant.digits in
    let k = one_more (string_bytes c.loop.text) _ d.0 c.loop.counter c.loop.left d.1 (omega arith) c.loop.invariant.low (omega (arith, c.if-left-eq0.false)) d.2 in
    record { low = omega arith; digits = rw (c.in_ok-write.ensures {u = tt}).bytes k }

pub returns : goal.returns
returns c = let d = c.loop.invariant.digits in all_written (string_bytes c.loop.text) _ d.0 c.loop.left (omega (arith, d.1)) d.2
