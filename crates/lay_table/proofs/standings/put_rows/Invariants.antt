use Rattle.std.proofs.Common.{◌≡◌, ◌<◌, ℕ, length}
use Rattle.lay_placements.specs.Standings.{AreNearStandings, standing_at}
use Rattle.lay_table.specs.TableStandings.{number_in, row_places, row_standing, standing_by}
use Rattle.lay_table.proofs.standings.put_rows.Given as goal

abbrev pub invariant-loop-r : goal.invariant-loop-r
invariant-loop-r l = record {
  count : length l.standings.items ≡ length l.fn.standings.items;
  each : (k : ℕ) → k < length l.fn.standings.items → standing_at l.standings.items k ≡ standing_by (row_standing l.places) (standing_at l.fn.standings.items k) (number_in (row_places l.input) k l.r);
  near : AreNearStandings l.standings.items;
}
