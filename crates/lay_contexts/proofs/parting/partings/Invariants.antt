use Rattle.std.proofs.Common.{◌≡◌, ◌≤◌}
use Rattle.lay_contexts.specs.FormattingContextList.{first_number}
use Rattle.lay_contexts.specs.Partings.{ArePartingsTo, most_formatting_contexts}
use Rattle.lay_contexts.proofs.parting.partings.Given as goal

abbrev pub invariant-loop-i : goal.invariant-loop-i
invariant-loop-i l = ArePartingsTo l.contexts l.partings.items l.i × (l.first ≡ first_number l.contexts l.i) × (l.first ≤ most_formatting_contexts)
