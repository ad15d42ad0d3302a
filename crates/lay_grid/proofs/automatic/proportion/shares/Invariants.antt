use Rattle.std.proofs.Common.{◌≡◌, ◌+◌, drop}
use Rattle.lay_grid.specs.Automatic.Pass.Steps.{sum_shares}
use Rattle.lay_grid.proofs.automatic.proportion.shares.Given as goal

abbrev pub invariant-loop-bound : goal.invariant-loop-bound
invariant-loop-bound l = l.sum + sum_shares l.fn.rest l.fn.rooms (drop l.bound-index l.bounds) ≡ sum_shares l.fn.rest l.fn.rooms l.bounds
