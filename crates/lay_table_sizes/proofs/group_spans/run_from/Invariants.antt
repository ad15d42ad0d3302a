use Rattle.std.proofs.Common.{◌≡◌, ◌+◌, drop}
use Rattle.lay_table_sizes.specs.GroupWidths.{run_of}
use Rattle.lay_table_sizes.proofs.group_spans.run_from.Given as goal

abbrev pub invariant-loop-j : goal.invariant-loop-j
invariant-loop-j l = run_of l.group (drop l.k l.groups) + l.k ≡ l.j + run_of l.group (drop l.j l.groups)
