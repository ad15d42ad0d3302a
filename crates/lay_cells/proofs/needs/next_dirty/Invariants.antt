use Rattle.std.proofs.Common.{◌≡◌, ◌<◌, ℕ, false, map, slice_get, Some}
use Rattle.lay_cells.specs.Rows.{Row, row_of}
use Rattle.lay_cells.proofs.needs.next_dirty.Given as goal

abbrev pub invariant-loop-place : goal.invariant-loop-place
invariant-loop-place g l = (j : ℕ) → j < l.place → (r : Row _ _ _) → slice_get (map row_of l.cells) j ≡ Some r → r.dirty ≡ false
