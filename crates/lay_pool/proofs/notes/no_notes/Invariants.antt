-- Nothing is noted so far.
use Rattle.std.proofs.Common.{◌≡◌, ◌≢◌, ℕ, Option, Some, slice_get, vec_len}
use Rattle.lay_cell_work.specs.ClaimLists.Outcomes.{Work}
use Rattle.lay_pool.proofs.notes.no_notes.Given as goal

abbrev pub invariant-loop-place : goal.invariant-loop-place
invariant-loop-place l = (vec_len l.notes ≡ l._place) × ((place : ℕ) (d : Option Work) → slice_get l.notes.items place ≢ Some (Some d))
