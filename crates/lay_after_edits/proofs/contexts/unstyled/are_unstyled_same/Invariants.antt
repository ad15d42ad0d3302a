use Rattle.std.proofs.Common.{◌≡◌, ◌<◌, ℕ, slice_get}
use Rattle.lay_after_edits.specs.Contexts.Unstyled.{all_unstyled}
use Rattle.lay_after_edits.proofs.contexts.unstyled.are_unstyled_same.Given as goal

abbrev pub invariant-loop-k : goal.invariant-loop-k
invariant-loop-k l = (m : ℕ) → m < l.k → slice_get (all_unstyled l.a) m ≡ slice_get (all_unstyled l.b) m
