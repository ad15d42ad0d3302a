use Rattle.lay_lines.proofs.Reaches.{fits_means}
use Rattle.lay_lines.proofs.reach.Reach.fits.Goals as goal

pub returns : goal.returns
returns c =
    fits_means c.one_room.ensures c.args.line.now.frame c.args.line.now.top.0 c.args.line.now.stretches.now c.args.floats.now c.args.self.now _ _ c.requires.reach
    c.wide_minus.ensures c.is_at_most.ensures
