use Rattle.std.proofs.Common.{◌≡◌, ◌++◌, drop}
use Rattle.lay_line_items.specs.GatheredWidths.{gathered, gathered_after}
use Rattle.lay_line_items.proofs.gathered.gathered.Given as goal

abbrev pub invariant-loop-k : goal.invariant-loop-k
invariant-loop-k l = l.out.items ++ gathered_after l.text l.before (drop l.k l.widths) ≡ gathered l.text l.widths
