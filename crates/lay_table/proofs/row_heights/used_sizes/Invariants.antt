use Rattle.std.proofs.Common.{◌≡◌, map, take}
use Rattle.lay_table.specs.TableRows.{height_as_size}
use Rattle.lay_table.proofs.row_heights.used_sizes.Given as goal

abbrev pub invariant-loop-height : goal.invariant-loop-height
invariant-loop-height l = l.used.items ≡ map height_as_size (take l.height-index l.heights)
