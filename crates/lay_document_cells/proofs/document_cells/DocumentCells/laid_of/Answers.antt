use Rattle.std.proofs.Common.{IfNone, subst}
use Rattle.lay_cells.specs.Looks.{IsGone}
use Rattle.lay_document_cells.specs.State.{State}
use Rattle.lay_document_cells.proofs.document_cells.DocumentCells.laid_of.Goals as goal

pub returns-clause-none : goal.returns-clause-none
returns-clause-none c = subst (λ (s : State). IfNone c.laid.result (IsGone s.cells.rows c.args.key)) c.self.view_is c.laid.ensures.none
