use Rattle.std.proofs.Common.{◌≡◌, ◌-◌, drop}
use Rattle.lay_table_sizes.specs.PreferredWidths.{all_beside}
use Rattle.lay_table_sizes.proofs.preferred_widths.all_beside.Given as goal

-- the last ones are done
abbrev pub invariant-loop-done : goal.invariant-loop-done
invariant-loop-done l = l.total ≡ all_beside (drop (l.count - l.done) l.widths)
