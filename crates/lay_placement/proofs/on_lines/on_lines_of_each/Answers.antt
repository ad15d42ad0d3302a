use Rattle.std.proofs.Common.{arith}
use Rattle.std.proofs.lemmas.Grind.{elements}
use Rattle.lay_placement.specs.OnLines.{on_lines_of}
use Rattle.lay_placement.proofs.OnLineSteps.{one_more}
use Rattle.lay_placement.proofs.on_lines.on_lines_of_each.Goals as goal

pub loop-k-preserved : goal.loop-k-preserved
loop-k-preserved c =
    let pushed = (c.in_ok-push.ensures {u = tt}).items in
    record {
      count = rw pushed (grind (arith, elements, c.loop-k.invariant.count));
      each = rw pushed (one_more (on_lines_of c.args.input.now c.args.places.now) c.loop-k.all.items c.loop-k.k c.in_ok-pieces.pieces c.loop-k.invariant.count c.loop-k.invariant.each (c.in_ok-pieces.ensures {u = tt}));
    }
