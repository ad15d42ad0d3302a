use Rattle.std.proofs.Common.{ℕ, refl, subst}
use Rattle.lay_cells.specs.Looks.{IsAt, IsGone}
use Rattle.lay_cell_work.specs.CellLaws.SoundCells.{CellRow}
use Rattle.lay_document_cells.specs.State.{State}
use Rattle.lay_document_cells.proofs.ClaimsWorking.{answer_draws, answer_of}
use Rattle.lay_document_cells.proofs.document_cells.DocumentCells.claim.Goals as goal

pub returns-in-None-clause-answers : goal.returns-in-None-clause-answers
returns-in-None-clause-answers c = (subst (λ (s : State). IsGone s.cells.rows c.args.key) c.self.view_is c.in-None.ensures.none, refl)

pub returns-in-Some-clause-answers : goal.returns-in-Some-clause-answers
returns-in-Some-clause-answers c =
    let at = subst (λ (s : State). (r : CellRow) × IsAt s.cells.rows c.args.key c.in-Some.place r) c.self.view_is c.in-Some.ensures.some in
    answer_of c.args.self.now c.claim_at.new.self c.in-Some.place c.args.key c.claim_at.result at.0 at.1 c.claim_at.ensures.answers

pub returns-in-Some-clause-draws : goal.returns-in-Some-clause-draws
returns-in-Some-clause-draws c = let h = c.claim_at.ensures.answers in answer_draws c.args.self.now c.claim_at.new.self h.0.key c.claim_at.result h.2
