use Rattle.lay_grid.specs.Pass.Sharing.{SharedTo}
use Rattle.lay_grid.proofs.shares.share_out.Given as goal

abbrev pub invariant-loop-own : goal.invariant-loop-own
invariant-loop-own l = SharedTo l.owns l.rest l.each l.more l.own-index l.widths.items
