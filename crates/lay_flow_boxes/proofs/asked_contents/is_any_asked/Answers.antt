use Rattle.std.proofs.Common.{◌∙◌, arith, sym}
use Rattle.lay_flow_boxes.proofs.AskedSteps.{asked_any, none_any}
use Rattle.lay_flow_boxes.proofs.asked_contents.is_any_asked.Goals as goal

pub returns-then-is_asked_at : goal.returns-then-is_asked_at
returns-then-is_asked_at c = sym (asked_any c.args.asked c.args.boxes.now c.loop-k.k (sym c.is_asked_at.ensures ∙ c.if-is_asked_at.true))

pub returns : goal.returns
returns c = sym (none_any c.args.asked c.args.boxes.now (λ j lt. c.loop-k.invariant j (omega (arith, c.loop-k-test.false))))
