use Rattle.std.proofs.Common.{◌≡◌, ◌+◌, ◌≤◌}
use Rattle.lay_contexts.specs.FormattingContextList.{roots_before}
use Rattle.lay_contexts.specs.Partings.{AreNumbersTo, most_formatting_contexts}
use Rattle.lay_contexts.proofs.numbers.numbers.Given as goal

abbrev pub invariant-loop-k : goal.invariant-loop-k
invariant-loop-k l =
    AreNumbersTo l.boxes l.first l.numbers.items (l.k + 1) × (l.number ≡ l.first + roots_before l.boxes l.k) × (l.number ≤ most_formatting_contexts)
