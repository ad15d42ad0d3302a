use Rattle.lay_lines.proofs.Reaches.{seen_is}
use Rattle.lay_lines.proofs.reach.Reach.is_seen.Goals as goal

pub returns : goal.returns
returns c = seen_is c.args.line.now.frame c.args.line.now.stretches.now c.args.self.now c.requires
