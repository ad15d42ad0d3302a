use Rattle.std.proofs.Common.{ℕ, ◌<◌, length}
use Rattle.std.specs.Prelude.{Option}
use Rattle.lay_positioned.specs.Holders.{IsNearestHolder}
use Rattle.lay_positioned.proofs.holders.nearest_holder.Given as goal

-- what is nearest around the box that the walk has come to, is nearest
abbrev pub invariant-loop-at : goal.invariant-loop-at
invariant-loop-at l = record {
  within : l.at < length l.boxes;
  nearest : (holder : Option ℕ) → IsNearestHolder l.boxes l.at holder → IsNearestHolder l.boxes l.k holder;
}

abbrev pub decreases-loop-at : goal.decreases-loop-at
decreases-loop-at l = l.at
