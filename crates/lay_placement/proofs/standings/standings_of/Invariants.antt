use Rattle.std.proofs.Common.{◌≡◌, ◌<◌, ℕ, length}
use Rattle.lay_placements.specs.Standings.{AreNearStandings, standing_at}
use Rattle.lay_placement.specs.BoxStandings.{standing_of_box}
use Rattle.lay_placement.proofs.standings.standings_of.Given as goal

abbrev pub invariant-loop-k : goal.invariant-loop-k
invariant-loop-k l = record {
  count : length l.standings.items ≡ l.k;
  each : (j : ℕ) → j < l.k → standing_at l.standings.items j ≡ standing_of_box l.input l.places j;
  near : AreNearStandings l.standings.items;
}
