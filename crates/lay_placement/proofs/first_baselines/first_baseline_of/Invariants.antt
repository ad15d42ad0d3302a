use Rattle.std.proofs.Common.{◌≡◌, ◌<◌, ℕ, None}
use Rattle.lay_placement.specs.Baselines.{baseline_in}
use Rattle.lay_placement.proofs.first_baselines.first_baseline_of.Given as goal

abbrev pub invariant-loop-k : goal.invariant-loop-k
invariant-loop-k l = (j : ℕ) → j < l.k → baseline_in l.input l.places.places j ≡ None
