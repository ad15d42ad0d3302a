use Rattle.std.proofs.Common.{◌≡◌, ◌++◌, [], drop, true}
use Rattle.lay_line_measures.proofs.TextStretches.{stretches_from}
use Rattle.lay_line_measures.proofs.text_stretches.text_stretches.Given as goal

abbrev pub invariant-loop-k : goal.invariant-loop-k
invariant-loop-k l =
    l.done.items ++ stretches_from l.run.of l.run.text.now l.first l.parts.items (drop l.k l.widths)
    ≡ stretches_from l.run.of l.run.text.now true [] l.widths
