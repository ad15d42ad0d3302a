use Rattle.std.proofs.Common.{◌≡◌, ◌++◌, None, drop}
use Rattle.lay_table_sizes.specs.GroupWidths.{spans_from}
use Rattle.lay_table_sizes.proofs.group_spans.spans_of.Given as goal

abbrev pub invariant-loop-k : goal.invariant-loop-k
invariant-loop-k l = l.spans.items ++ spans_from l.boxes l.k l.before (drop l.k l.groups) ≡ spans_from l.boxes 0 None l.groups
