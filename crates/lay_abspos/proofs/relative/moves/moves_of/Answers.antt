use Rattle.std.proofs.Common.{ap, arith, length}
use Rattle.std.proofs.lemmas.Grind.{elements}
use Rattle.lay_abspos.proofs.RelativeLemmas.MoveSteps.{one_more, one_more_near}
use Rattle.lay_abspos.proofs.relative.moves.moves_of.Goals as goal

pub loop-k-preserved : goal.loop-k-preserved
loop-k-preserved c =
    let pushed = (c.in_ok-push.ensures {u = tt}).items in
    let found = c.in_ok-offset.ensures {u = tt} in
    let inv = c.loop-k.invariant in
    let counted = ap length c.as_slice-count.ensures.boxes in
    let formers = rw c.tree.ensures at (c.in_ok-formers.ensures {u = tt}) in
    let offset = rw (c.deref.ensures.value, c.deref-in-loop-k.ensures.value) at found.offset in
    record {
      count = rw pushed (grind (arith, elements, inv.count));
      each = rw pushed (one_more c.args.boxes.now c.args.sizes.now c.in_ok-formers.formers.items c.loop-k.moves.items c.loop-k.k c.in_ok-offset.offset c.as_slice-count.ensures.are formers (omega (arith, c.loop-k-test.true, counted)) inv.count inv.each offset);
      near = rw pushed (one_more_near c.loop-k.moves.items c.in_ok-offset.offset inv.near found.near);
    }
