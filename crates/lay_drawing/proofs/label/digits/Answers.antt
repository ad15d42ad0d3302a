use Rattle.std.proofs.Common.{arith, ap, length, length-append, ◌+◌, ◌/◌, ◌%◌, ◌∷◌, []}
use Rattle.std.specs.Fmt.{decimal}
use Rattle.std.proofs.lemmas.Fmt.{decimal_step, decimal_digit, decimal_nonempty, length-decimal-le}
use Rattle.lay_drawing.proofs.label.digits.Goals as goal

pub overflow_add-count : goal.overflow_add-count
overflow_add-count c = omega (arith, c.loop-left.invariant, decimal_nonempty c.loop-left.left, length-decimal-le 10 c.args.node)

pub loop-left-preserved : goal.loop-left-preserved
loop-left-preserved c =
    let step = decimal_step c.loop-left.left (omega arith) (omega arith) in
    omega (arith, c.loop-left.invariant, ap length step, length-append (decimal (c.loop-left.left / 10)) ((48 + c.loop-left.left % 10) ∷ []))

pub returns : goal.returns
returns c =
    let one = decimal_digit c.loop-left.left (omega arith) in
    omega (arith, c.loop-left.invariant, ap length one)
