use Rattle.std.proofs.Common.{◌≡◌, ◌++◌, drop}
use Rattle.std.specs.List.{All}
use Rattle.lay_units.specs.Units.{IsUsedSize}
use Rattle.lay_units.specs.declared.length.Unit.{Unit as Length}
use Rattle.lay_table_sizes.specs.TableSizes.{held}
use Rattle.lay_table_sizes.proofs.sizing.held.Given as goal

abbrev pub invariant-loop-k : goal.invariant-loop-k
invariant-loop-k l = record {
  value : l.used.items ++ held (drop l.k l.widths) ≡ held l.widths;
  sizes : All (λ (width : Length). IsUsedSize width.0) l.used.items;
}
