use Rattle.std.proofs.Common.{subst}
use Rattle.lay_cells.specs.Places.{IsFirstDirtyFrom}
use Rattle.lay_document_cells.specs.State.{State}
use Rattle.lay_document_cells.proofs.WalkSteps.{walked_first}
use Rattle.lay_document_cells.proofs.document_cells.DocumentCells.first_walk.Goals as goal

pub returns-in-Some : goal.returns-in-Some
returns-in-Some c =
    walked_first c.args.self.now.cells.rows c.in-Some.first
    (subst (λ (s : State). IsFirstDirtyFrom s.cells.rows 0 c.in-Some.first) c.self.view_is (c.in-Some.ensures {u = tt}).some)
