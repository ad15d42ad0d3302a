use Rattle.std.proofs.Common.{◌≡◌, ◌<◌, ℕ, length}
use Rattle.lay_placements.specs.Standings.{AreNearStandings, standing_at}
use Rattle.lay_table.specs.TableStandings.{cell_places, cell_standing, number_in, standing_by}
use Rattle.lay_table.proofs.standings.put_cells.Given as goal

abbrev pub invariant-loop-c : goal.invariant-loop-c
invariant-loop-c l = record {
  count : length l.standings.items ≡ length l.fn.standings.items;
  each : (k : ℕ) → k < length l.fn.standings.items → standing_at l.standings.items k ≡ standing_by (cell_standing l.input l.places) (standing_at l.fn.standings.items k) (number_in (cell_places l.input) k l.c);
  near : AreNearStandings l.standings.items;
}
