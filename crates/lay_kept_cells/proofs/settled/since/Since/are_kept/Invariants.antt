use Rattle.std.proofs.Common.{◌≡◌, ◌<◌, ℕ, Some, slice_get}
use Rattle.lay_kept_cells.specs.Settled.Since.{KeepsThen}
use Rattle.lay_kept_cells.proofs.settled.since.Since.are_kept.Given as goal

abbrev pub invariant-loop-j : goal.invariant-loop-j
invariant-loop-j l = (m : ℕ) → m < l.j → (need : ℕ) → slice_get l.places m ≡ Some need → KeepsThen l.table.contexts l.cells.rows l.self need
