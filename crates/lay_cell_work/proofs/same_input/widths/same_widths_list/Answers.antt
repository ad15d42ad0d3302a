use Rattle.std.proofs.Common.{arith, refl}
use Rattle.lay_cell_work.proofs.Cited.{one_more_at, same_lists}
use Rattle.lay_cell_work.proofs.same_input.widths.same_widths_list.Goals as goal

pub loop-k-init : goal.loop-k-init
loop-k-init c = λ m lt. absurd (omega (arith, lt))

pub loop-k-preserved : goal.loop-k-preserved
loop-k-preserved c =
    one_more_at c.args.a.now c.args.b.now c.loop-k.k _ c.loop-k.invariant c.loop-k-test.true (omega (arith, c.loop-k-test.true, c.if-a-b.false)) (c.same_widths.ensures.0 c.if-not-same_widths.false)

pub returns : goal.returns
returns c = (λ t. same_lists c.args.a.now c.args.b.now c.if-a-b.false (λ k lt. c.loop-k.invariant k (omega (arith, lt, c.loop-k-test.false))), λ e. refl)
