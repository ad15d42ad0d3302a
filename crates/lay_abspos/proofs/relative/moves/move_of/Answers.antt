use Rattle.std.proofs.Common.{arith}
use Rattle.lay_abspos.proofs.RelativeLemmas.MoveSteps.{positive_move}
use Rattle.lay_abspos.proofs.relative.moves.move_of.Goals as goal

pub returns-clause-offset : goal.returns-clause-offset
returns-clause-offset c =
    let sum = rw (c.own_offset-own.ensures.value, c.carrier.ensures.value) at c.sum_of.ensures.sum in
    rw (positive_move c.args.boxes.now c.args.sizes.now c.args.formers.now c.args.moves.now c.args.k (omega (arith, c.if-k-eq0.false))) sum
