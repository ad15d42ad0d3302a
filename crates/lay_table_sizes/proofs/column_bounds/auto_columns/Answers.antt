use Rattle.std.proofs.Common.{arith}
use Rattle.std.proofs.lemmas.Int.{ints}
use Rattle.lay_table_sizes.proofs.column_bounds.auto_columns.Goals as goal

pub columns_auto-requires : goal.columns_auto-requires
columns_auto-requires c = record {
  few = let count = c.requires.count in let few = c.requires.few in omega (arith, count, few);
  order = c.requires.bounds;
  least = let value = c.in_ok-space.ensures.value in let least = c.requires.least in omega (arith, ints, value, least);
  most = c.in_ok-space.ensures.most;
}
