use Rattle.std.proofs.Common.{◌≡◌, ◌<◌, ℕ, length, slice_index}
use Rattle.lay_contexts.specs.Contexts.{context_at}
use Rattle.lay_after_edits.proofs.contexts.places.places_of.Given as goal

abbrev pub invariant-loop-i : goal.invariant-loop-i
invariant-loop-i l = (length l.places.items ≡ l.i) × ((k : ℕ) → k < l.i → slice_index l.places.items k ≡ (context_at l.contexts k).place)
