use Rattle.lay_table_sizes.proofs.ColumnBounds.{bounds_stand_as_they_are_lem}
use Rattle.lay_table_sizes.proofs.laws.bounds_stand_as_they_are.Goals as goal

pub returns : goal.returns
returns c = bounds_stand_as_they_are_lem
