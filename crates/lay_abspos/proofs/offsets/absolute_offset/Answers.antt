use Rattle.lay_abspos.proofs.OneAbsoluteBox.{far_offset}
use Rattle.lay_abspos.proofs.offsets.absolute_offset.Goals as goal

pub returns-clause-far : goal.returns-clause-far
returns-clause-far c =
    far_offset c.args.setting.now c.args.own.now c.args.left c.args.height c.corner_inside-corner.result c.near_corner.result c.corner_inside-corner.ensures c.near_corner.ensures.far
