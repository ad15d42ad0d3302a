use Rattle.std.proofs.Common.{ℕ, ◌<◌, ◌-◌, length}
use Rattle.lay_run.specs.Gathered.Links.{IsLastOf}
use Rattle.lay_run.proofs.gathered.listing.last_of.Given as goal

abbrev pub invariant-loop-at : goal.invariant-loop-at
invariant-loop-at l = record {
  within : l.at < length l.lasts;
  goes_on : (n : ℕ) → IsLastOf l.lasts l.at n → IsLastOf l.lasts l.of n;
}

abbrev pub decreases-loop-at : goal.decreases-loop-at
decreases-loop-at l = length l.lasts - l.at
