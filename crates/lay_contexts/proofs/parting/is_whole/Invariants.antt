use Rattle.std.proofs.Common.{◌≡◌, ℕ, ◌<◌, true}
use Rattle.lay_contexts.specs.Homes.{is_root}
use Rattle.lay_contexts.proofs.parting.is_whole.Given as goal

abbrev pub invariant-loop-k : goal.invariant-loop-k
invariant-loop-k l = (j : ℕ) → 0 < j → j < l.k → is_root l.boxes j ≡ true → ⊥
