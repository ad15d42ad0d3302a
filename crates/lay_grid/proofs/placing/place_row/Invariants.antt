use Rattle.std.proofs.Common.{◌≡◌, ◌-◌, ◌++◌, drop}
use Rattle.lay_grid.specs.Areas.{areas_in_row}
use Rattle.lay_grid.specs.Places.{areas_of}
use Rattle.lay_grid.specs.Pass.Known.{Known}
use Rattle.lay_grid.proofs.placing.place_row.Given as goal

abbrev pub invariant-loop-span : goal.invariant-loop-span
invariant-loop-span l = record {
  known : Known l.cells.items l.busy.items l.row l.next;
  areas : areas_of l.cells.items ++ areas_in_row l.row (l.end - l.row) (drop l.span-index l.spans) ≡ areas_of l.initial.cells.items ++ areas_in_row
      l.row (l.end - l.row) l.spans;
}
