use Rattle.std.proofs.Common.{◌-◌, length, arith}
use Rattle.lay_contexts.proofs.WholePartings.{whole_is}
use Rattle.lay_contexts.proofs.parting.Parting.whole.Goals as goal

pub returns : goal.returns
returns c =
    let boxes = c.args.boxes.now in
    let found = c.in_ok-next.ensures {u = tt} in
    whole_is boxes c.requires.are c.requires.whole c.args.first c.in_ok-next.next (length boxes - 1) (omega (arith, c.requires.are.some)) found.number found.few
