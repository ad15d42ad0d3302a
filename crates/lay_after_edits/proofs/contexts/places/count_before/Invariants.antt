use Rattle.std.proofs.Common.{◌<◌, ◌≤◌, ◌-◌, ℕ, length, slice_index}
use Rattle.lay_after_edits.proofs.contexts.places.count_before.Given as goal

abbrev pub invariant-loop-low : goal.invariant-loop-low
invariant-loop-low l =
    (l.low ≤ l.high) × (l.high ≤ length l.places) × ((i : ℕ) → i < l.low → slice_index l.places i < l.place)
    × ((i : ℕ) → l.high ≤ i → i < length l.places → l.place ≤ slice_index l.places i)

abbrev pub decreases-loop-low : goal.decreases-loop-low
decreases-loop-low l = l.high - l.low
