use Rattle.std.proofs.Common.{IfNone, subst}
use Rattle.lay_cells.specs.Reads.{AllClean}
use Rattle.lay_document_cells.specs.State.{State}
use Rattle.lay_document_cells.proofs.document_cells.DocumentCells.first_dirty.Goals as goal

pub returns-clause-none : goal.returns-clause-none
returns-clause-none c = subst (λ (s : State). IfNone c.first_dirty.result (AllClean s.cells.rows)) c.self.view_is c.first_dirty.ensures.none
