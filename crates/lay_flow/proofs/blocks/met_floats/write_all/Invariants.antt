use Rattle.std.proofs.Common.{ℕ, ◌≡◌, ◌<◌, length, drop}
use Rattle.lay_flow.specs.Blocks.FlowPlaces.{place_or}
use Rattle.lay_flow.specs.Blocks.FlowPlaces.{corner_at}
use Rattle.lay_flow.proofs.blocks.met_floats.write_all.Given as goal

abbrev pub invariant-loop-i : goal.invariant-loop-i
invariant-loop-i l =
    (length l.corners.items ≡ length l.fn.corners.items)
    × ((k : ℕ) → k < length l.fn.corners.items → place_or (corner_at l.corners.items k) k (drop l.i l.places) ≡ place_or (corner_at l.fn.corners.items k) k l.places)
