use Rattle.std.proofs.Common.{arith}
use Rattle.lay_after_edits.proofs.ContextsLemmas.NearSteps.{reached-known}
use Rattle.lay_after_edits.proofs.contexts.reached.reached_contexts.Goals as goal

pub returns : goal.returns
returns c =
    reached-known c.args.of.now.doc.now.nodes c.args.of.now.was.now c.args.places.now c.requires.places c.in_ok-near.near.items c.args.made.now c.loop-k.reached.items c.loop-k.k
    (omega (arith, c.loop-k-test.false, c.loop-k.auto.k-end, c.len-k-end.ensures)) c.nodes.ensures.valid.tree c.loop-k.invariant.count (c.in_ok-near.ensures {u = tt}) c.loop-k.invariant.to
