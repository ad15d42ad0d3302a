use Rattle.std.proofs.Common.{◌≡◌, ◌<◌, ◌≤◌, ℕ, false, map, slice_get, Some}
use Rattle.lay_cells.specs.Rows.{Row, row_of}
use Rattle.lay_cells.proofs.places.next_dirty_from.Given as goal

abbrev pub invariant-loop-at : goal.invariant-loop-at
invariant-loop-at g l = (j : ℕ) → l.fn.place ≤ j → j < l.at → (r : Row _ _ _) → slice_get (map row_of l.cells) j ≡ Some r → r.dirty ≡ false
