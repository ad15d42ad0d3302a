use Rattle.std.proofs.Common.{inl, refl, subst}
use Rattle.lay_cells.specs.Reads.{AllClean}
use Rattle.lay_document_cells.specs.State.{State}
use Rattle.lay_document_cells.proofs.document_cells.DocumentCells.claim_behind.Goals as goal

pub returns-in-None-clause-answers : goal.returns-in-None-clause-answers
returns-in-None-clause-answers c = (inl refl, subst (λ (s : State). AllClean s.cells.rows) c.self.view_is c.in-None.ensures.none)
