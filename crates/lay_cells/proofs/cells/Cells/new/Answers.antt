use Rattle.std.proofs.Common.{sym, subst, List}
use Rattle.lay_cells.specs.Kept.{IsKept}
use Rattle.lay_cells.proofs.Empty.{kept_none}
use Rattle.lay_cells.proofs.cells.Cells.new.Goals as goal

pub invariant_of-result : goal.invariant_of-result
invariant_of-result g c =
    subst (λ (cells : List _). IsKept g.W.Work.relates g.W.Key.Ord.cmp cells c.new-2.result 0 0) (sym c.new.ensures.items) (kept_none g.W.Work.relates g.W.Key.Ord.cmp c.new-2.result c.new-2.ensures.empty)
