use Rattle.std.proofs.Common.{◌≡◌, ◌<◌, ℕ, length}
use Rattle.lay_placements.specs.Standings.{AreNearStandings, standing_at}
use Rattle.lay_table.specs.TableStandings.{group_or_none}
use Rattle.lay_table.proofs.standings.groups_or_none.Given as goal

abbrev pub invariant-loop-k : goal.invariant-loop-k
invariant-loop-k l = record {
  count : length l.standings.items ≡ l.k;
  each : (j : ℕ) → j < l.k → standing_at l.standings.items j ≡ group_or_none l.input l.places j;
  near : AreNearStandings l.standings.items;
}
