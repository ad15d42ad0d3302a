use Rattle.std.proofs.Common.{◌≡◌, drop}
use Rattle.lay_lines.specs.Content.Extents.{any_shows}
use Rattle.lay_lines.proofs.content.extents.any_shows.Given as goal

abbrev pub invariant-loop-k : goal.invariant-loop-k
invariant-loop-k l = any_shows (drop l.k l.boxes) ≡ any_shows l.boxes
