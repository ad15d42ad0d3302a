use Rattle.std.proofs.Common.{arith}
use Rattle.lay_after_edits.proofs.ContextsLemmas.UnstyledLists.{all-same, one-more-unstyled}
use Rattle.lay_after_edits.proofs.contexts.unstyled.are_unstyled_same.Goals as goal

pub loop-k-preserved : goal.loop-k-preserved
loop-k-preserved c =
    one-more-unstyled c.args.a.now c.args.b.now c.loop-k.k c.index-a-k.result c.index-b-k.result c.loop-k.invariant c.loop-k-test.true
    (omega (arith, c.loop-k-test.true, c.if-a-b.false)) c.index-a-k.is c.index-b-k.is (c.is_unstyled_same.ensures c.if-not-is_unstyled_same.false)

pub returns : goal.returns
returns c = λ t. all-same c.args.a.now c.args.b.now c.if-a-b.false (λ m lt. c.loop-k.invariant m (omega (arith, lt, c.loop-k-test.false)))
