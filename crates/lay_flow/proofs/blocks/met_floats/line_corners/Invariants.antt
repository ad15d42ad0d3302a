use Rattle.std.proofs.Common.{ℕ, ◌≡◌, ◌<◌, length, drop}
use Rattle.lay_flow.specs.Blocks.BlockFloats.{no_place}
use Rattle.lay_flow.specs.Blocks.FlowPlaces.{place_or}
use Rattle.lay_flow.specs.Blocks.FlowPlaces.{corner_at, joined}
use Rattle.lay_flow.proofs.blocks.met_floats.line_corners.Given as goal

abbrev pub invariant-loop-k : goal.invariant-loop-k
invariant-loop-k l =
    (length l.corners.items ≡ l.count)
    × ((k : ℕ) → k < l.count → place_or (corner_at l.corners.items k) k (joined (drop l.k l.met)) ≡ place_or no_place k (joined l.met))
