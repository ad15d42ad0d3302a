use Rattle.std.proofs.Common.{All}
use Rattle.lay_grid.specs.Automatic.Fit.{SpanFits}
use Rattle.lay_box_cases.proofs.auto_columns.group_spans.Given as goal

abbrev pub invariant-loop-word : goal.invariant-loop-word
invariant-loop-word l = All (SpanFits l.fn.columns) l.groups.items
