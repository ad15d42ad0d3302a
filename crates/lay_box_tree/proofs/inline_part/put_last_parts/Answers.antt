use Rattle.std.proofs.Common.{rules}
use Rattle.lay_box_tree.proofs.PartSteps.{one_more}
use Rattle.lay_box_tree.proofs.inline_part.put_last_parts.Goals as goal

pub loop-k-preserved : goal.loop-k-preserved
loop-k-preserved c = one_more c.args.boxes.now c.loop-k.parts c.loop-k.k c.is_last_part-last.result c.loop-k.invariant (search rules) c.is_last_part-last.ensures
