use Rattle.lay_grid.specs.Automatic.Pass.Steps.{SharedTo}
use Rattle.lay_grid.proofs.automatic.proportion.in_proportion.Given as goal

abbrev pub invariant-loop-bound : goal.invariant-loop-bound
invariant-loop-bound l = SharedTo l.bounds l.fn.space.0 l.more l.bound-index l.widths.items
