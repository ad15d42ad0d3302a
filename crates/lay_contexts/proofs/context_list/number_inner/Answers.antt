use Rattle.std.proofs.Common.{arith}
use Rattle.lay_contexts.proofs.ContextNumbers.{all_numbered}
use Rattle.lay_contexts.proofs.context_list.number_inner.Goals as goal

pub returns : goal.returns
returns c = all_numbered c.args.list.now.spots.items c.args.list.now.boxes.items c.loop-j.items.items c.loop-j.j (λ some. omega (arith, some)) c.loop-j.invariant
