use Rattle.std.proofs.Common.{◌≡◌, ℕ, ◌<◌, length, take}
use Rattle.std.specs.List.{All}
use Rattle.lay_grid.specs.Shares.{own_at}
use Rattle.lay_grid.specs.Lengths.{MayBePosition}
use Rattle.lay_grid.specs.Columns.{or_else, by_cells}
use Rattle.lay_grid.proofs.given_widths.own_widths.Given as goal

abbrev pub invariant-loop-cell : goal.invariant-loop-cell
invariant-loop-cell l = record {
  as_many : length l.owns.items ≡ length l.c.given;
  own : (i : ℕ) → i < length l.c.given → own_at l.owns.items i ≡ or_else (own_at l.c.given i) (by_cells l.c.spacing.0 (take l.cell-index l.c.first) i);
  fits : All MayBePosition l.owns.items;
}
