use Rattle.std.proofs.Common.{arith}
use Rattle.std.proofs.lemmas.Grind.{elements}
use Rattle.lay_context.specs.Measured.{is_measured}
use Rattle.lay_context.proofs.FlagSteps.{one_more}
use Rattle.lay_context.proofs.measured.measured_flags.Goals as goal

pub loop-i-preserved : goal.loop-i-preserved
loop-i-preserved c =
    let pushed = (c.in_ok-push.ensures {u = tt}).items in
    let counted = c.loop-i.invariant.counted in
    record {
      counted = rw pushed (grind (arith, elements, counted));
      each = rw pushed (one_more (is_measured c.args.contexts.now) c.loop-i.flags.items c.is_measured.result c.loop-i.i counted c.loop-i.invariant.each c.is_measured.ensures);
    }
