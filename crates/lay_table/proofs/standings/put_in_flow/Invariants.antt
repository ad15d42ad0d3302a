use Rattle.std.proofs.Common.{◌≡◌, ◌<◌, ℕ, length}
use Rattle.lay_flow.specs.Blocks.FlowPlaces.{box_place_at}
use Rattle.lay_placements.specs.Standings.{AreNearStandings, standing_at}
use Rattle.lay_table.specs.TableStandings.{table_flow_standing, number_in, standing_by}
use Rattle.lay_table.proofs.standings.put_in_flow.Given as goal

abbrev pub invariant-loop-n : goal.invariant-loop-n
invariant-loop-n l = record {
  count : length l.standings.items ≡ length l.fn.standings.items;
  each : (k : ℕ) → k < length l.fn.standings.items → standing_at l.standings.items k ≡ standing_by (λ n. table_flow_standing (box_place_at l.places.flow.boxes n)) (standing_at l.fn.standings.items k) (number_in l.in_flow k l.n);
  near : AreNearStandings l.standings.items;
}
