use Rattle.std.proofs.Common.{map, subst, List, IfSome, IfNone}
use Rattle.lay_cells.specs.Rows.{State, row_of}
use Rattle.lay_cells.specs.Reads.{AllClean, IsFirstDirtyKey}
use Rattle.lay_cells.proofs.cells.Cells.first_dirty.Goals as goal

pub returns-clause-some : goal.returns-clause-some
returns-clause-some g c =
    subst (λ (s : State _ _ _). IfSome c.first_dirty_key.result (IsFirstDirtyKey s.rows)) c.self.view_is
    (subst (λ (cells : List _). IfSome c.first_dirty_key.result (IsFirstDirtyKey (map row_of cells))) c.as_slice.ensures.value c.first_dirty_key.ensures.some)

pub returns-clause-none : goal.returns-clause-none
returns-clause-none g c =
    subst (λ (s : State _ _ _). IfNone c.first_dirty_key.result (AllClean s.rows)) c.self.view_is
    (subst (λ (cells : List _). IfNone c.first_dirty_key.result (AllClean (map row_of cells))) c.as_slice.ensures.value c.first_dirty_key.ensures.none)
