use Rattle.std.proofs.Common.{◌∙◌, sym, subst}
use Rattle.std.specs.List.{All}
use Rattle.lay_grid.specs.Automatic.Fit.{BoundFits}
use Rattle.lay_table_sizes.proofs.ColumnBounds.{first_fit}
use Rattle.lay_table_sizes.proofs.bounds.first_bounds.Goals as goal

pub returns-clause-fit : goal.returns-clause-fit
returns-clause-fit c = subst (All BoundFits) (sym (c.new.ensures ∙ c.loop-k.invariant)) (first_fit c.args.bounds.now c.loop-k.k c.requires)
