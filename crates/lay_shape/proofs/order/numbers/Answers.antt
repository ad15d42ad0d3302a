use Rattle.lay_shape.proofs.BuildSteps.{numbers_more}
use Rattle.lay_shape.proofs.order.numbers.Goals as goal

pub loop-i-preserved : goal.loop-i-preserved
loop-i-preserved c = numbers_more c.loop-i.i c.loop-i.numbers.items c.push.new.self.items c.loop-i.invariant (c.in_ok-push.ensures {u = tt}).items
