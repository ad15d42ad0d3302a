use Rattle.std.proofs.Common.{ℕ, ◌<◌, ◌≤◌}
use Rattle.lay_style.specs.ComputedStyle.{style_at}
use Rattle.lay_after_edits.specs.Contexts.Reach.{IsAlike}
use Rattle.lay_after_edits.proofs.contexts.alike.are_alike.Given as goal

abbrev pub invariant-loop-k : goal.invariant-loop-k
invariant-loop-k l = (m : ℕ) → l.from ≤ m → m < l.k → IsAlike (style_at l.styles m) (style_at l.others m)
