use Rattle.lay_lines.proofs.ContentLemmas.PenOrder.{over_fits}
use Rattle.lay_lines.proofs.content.pen.Pen.over_all.Goals as goal

pub over-pen-requires : goal.over-pen-requires
over-pen-requires c = over_fits c.args.frame.now c.loop-k.pen c.args.parts.now c.loop-k.k _ c.loop-k-test.true c.loop-k.invariant.1
