use Rattle.std.proofs.Common.{◌≡◌, take}
use Rattle.std.specs.List.{count_by}
use Rattle.lay_table.specs.Groups.{is_header_row}
use Rattle.lay_table.proofs.groups.header_rows.Given as goal

abbrev pub invariant-loop-row : goal.invariant-loop-row
invariant-loop-row l = l.count ≡ count_by (is_header_row l.outer) (take l.row-index l.rows)
