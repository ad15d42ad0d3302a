use Rattle.std.proofs.Common.{subst, IfNone, IfSome}
use Rattle.lay_cells.specs.Reads.{AllClean, IsFirstDirtyKey}
use Rattle.lay_document_cells.specs.State.{State}
use Rattle.lay_document_cells.proofs.Answered.{settled_iff}
use Rattle.lay_document_cells.proofs.document_cells.DocumentCells.is_settled.Goals as goal

pub returns : goal.returns
returns c =
    settled_iff c.first_dirty.result c.is_none.result c.args.self.now.cells.rows
    (subst (λ (s : State). IfSome c.first_dirty.result (IsFirstDirtyKey s.cells.rows)) c.self.view_is c.first_dirty.ensures.some)
    (subst (λ (s : State). IfNone c.first_dirty.result (AllClean s.cells.rows)) c.self.view_is c.first_dirty.ensures.none)
    c.is_none.ensures
