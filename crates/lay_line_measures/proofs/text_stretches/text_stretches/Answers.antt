use Rattle.std.proofs.Common.{◌∙◌, arith}
use Rattle.lay_line_measures.proofs.TextStretches.{all_stretches}
use Rattle.lay_line_measures.proofs.text_stretches.text_stretches.Goals as goal

pub returns : goal.returns
returns c = λ m box.
    c.in_ok-put_last.ensures ∙ all_stretches m box c.args.run.of c.args.run.text.now c.args.widths.now c.requires.collapses c.requires.wraps _ _ _ _ (omega (arith, c.loop-k-test.false)) c.loop-k.invariant
