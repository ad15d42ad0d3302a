use Rattle.std.proofs.Common.{◌≡◌}
use Rattle.std.specs.List.{All}
use Rattle.lay_units.specs.Units.{IsUsedSize}
use Rattle.lay_units.specs.declared.length.Unit.{Unit as Length}
use Rattle.lay_table.specs.RowNeeds.{own_heights_to}
use Rattle.lay_table.proofs.row_needs.own_heights.Given as goal

abbrev pub invariant-loop-r : goal.invariant-loop-r
invariant-loop-r l = record {
  are : l.heights.items ≡ own_heights_to l.input l.r;
  sizes : All (λ (u : Length). IsUsedSize u.0) l.heights.items;
}
