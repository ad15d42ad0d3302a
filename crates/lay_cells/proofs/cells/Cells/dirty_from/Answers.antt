use Rattle.std.proofs.Common.{List, IfNone, IfSome, map, subst}
use Rattle.lay_cells.specs.Rows.{State, row_of}
use Rattle.lay_cells.specs.Places.{AreCleanFrom, IsFirstDirtyFrom}
use Rattle.lay_cells.proofs.cells.Cells.dirty_from.Goals as goal

pub returns-clause-some : goal.returns-clause-some
returns-clause-some g c =
    subst (λ (s : State _ _ _). IfSome c.dirty_from.result (IsFirstDirtyFrom s.rows c.args.place)) c.self.view_is
    (subst (λ (cells : List _). IfSome c.dirty_from.result (IsFirstDirtyFrom (map row_of cells) c.args.place)) c.as_slice.ensures.value c.dirty_from.ensures.some)

pub returns-clause-none : goal.returns-clause-none
returns-clause-none g c =
    subst (λ (s : State _ _ _). IfNone c.dirty_from.result (AreCleanFrom s.rows c.args.place)) c.self.view_is
    (subst (λ (cells : List _). IfNone c.dirty_from.result (AreCleanFrom (map row_of cells) c.args.place)) c.as_slice.ensures.value c.dirty_from.ensures.none)
