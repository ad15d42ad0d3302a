-- Claims of cells, and what becomes of them.
use Rattle.std.proofs.Common.{◌≡◌, ℕ, ap, ◌∙◌, subst, arith, inl, inr}
use Rattle.lay_cells.specs.declared.answers.Finished.{Finished}
use Rattle.lay_cells.specs.declared.answers.Released.{Released}
use Rattle.lay_shape.specs.declared.cell_key.CellKey.{CellKey}
use Rattle.lay_document_cells.specs.Batches.{CellsClaimSome}
use Rattle.lay_document_cells.specs.Claims.{CellsAnswerClaim, CellsAnswerNext, CellsDrawFew}
use Rattle.lay_document_cells.specs.Outcomes.{CellsFinishAll}
use Rattle.lay_document_cells.specs.Settling.{CellsSettleTo, CellsStopAt}
use Rattle.lay_document_cells.specs.State.{IsOfDocument, State as DocumentCells}
use Rattle.lay_document_cells.specs.Steps.{CellsFinishTo, CellsGiveBackTo}
use Rattle.lay_cell_work.specs.ClaimLists.Outcomes.{Work}
use Rattle.lay_core.specs.CellLaws.{BatchesAreUnseen, ClaimsAreUnseen, FinishesAreUnseen, GiveBacksAreUnseen, KeepsHistory, NextClaimsAreUnseen, OutcomesAreUnseen, SettlingIsUnseen, StoppingIsUnseen}
use Rattle.lay_core.specs.Claims.{DrawsFew}
use Rattle.lay_core.specs.CoreLaws.ReachedCores.{CallsTo, IsReached}
use Rattle.lay_core.specs.State.{HasNumbers, IsKept, State, document_cells, with_cells}
use Rattle.lay_core.specs.Work.{ChangesCells}
use Rattle.lay_core.proofs.CellWork.{IsWork}
use Rattle.lay_core.proofs.CoreLawsLemmas.LeadsOn.{leads_on}
use Rattle.lay_core.proofs.Kept.{work_keeps}

numbers_left : (s : State) (n room : ℕ) (d : DocumentCells) → IsKept s n room → HasNumbers s → CellsDrawFew (document_cells s) d → HasNumbers (with_cells s d)
numbers_left s n room d is has draws = elim draws [
  | inl same ↦ omega (arith, same, has)
  | inr few ↦ (let a = few.0 in let b = few.1 in let c = is.is_core.few_calls in omega (arith, a, b, c))
]

-- work on the cells that draws few numbers
pub leaves : (s : State) (n room : ℕ) → IsKept s n room → HasNumbers s → IsReached s.init s.face s → (d : DocumentCells) → IsWork (document_cells s) d
    → CellsDrawFew (document_cells s) d → IsOfDocument d → CallsTo s (with_cells s d)
    → IsKept (with_cells s d) n room × HasNumbers (with_cells s d) × IsReached s.init d.face (with_cells s d)
leaves s n room is has reached d work draws sound call =
    let kept = work_keeps s d n room is work sound in
    (kept, numbers_left s n room d is has draws, leads_on s (with_cells s d) reached call kept.is_core)

pub finish_draws : (s : DocumentCells) (d : Work) (a : Finished) (t : DocumentCells) → CellsFinishTo s d a t → t.cells.draws ≡ s.cells.draws
finish_draws s d a t does = ap (λ x. x.cells.draws) does.state ∙ elim does.finishes [
  | inl gone ↦ ap (λ x. x.draws) gone.2
  | inr done ↦ ap (λ x. x.draws) done.5
]

pub back_draws : (s : DocumentCells) (key : CellKey) (number : ℕ) (a : Released) (t : DocumentCells) → CellsGiveBackTo s key number a t
    → t.cells.draws ≡ s.cells.draws
back_draws s key number a t does = ap (λ x. x.cells.draws) does.state ∙ elim does.gives_back [
  | inl gone ↦ ap (λ x. x.draws) gone.2
  | inr back ↦ ap (λ x. x.draws) back.5
]

-- so few numbers are drawn
pub few_drawn : (s now : State) (d : DocumentCells) → s ≡ now → CellsDrawFew (document_cells s) d → DrawsFew now (with_cells s d)
few_drawn s now d same draws = subst (λ x. DrawsFew x (with_cells s d)) same elim draws [
  | inl e ↦ inl (omega (arith, e))
  | inr few ↦ inr (let a = few.0 in let b = few.1 in omega (arith, a, b))
]

pub none_drawn : (s now : State) (d : DocumentCells) → s ≡ now → d.cells.draws ≡ s.cells.draws → d.cells.draws ≡ now.cells.draws
none_drawn s now d same e = e ∙ ap (λ (x : State). x.cells.draws) same

-- where cells alone are changed, no editor sees it
history_kept : (Does : DocumentCells → DocumentCells → Type 0) (s t : State) → ChangesCells Does s t → KeepsHistory s t
history_kept Does s t does = record {
  init = ap (λ (x : State). x.init) does.state;
  face = ap (λ (x : State). x.face) does.state;
  history = ap (λ (x : State). x.history) does.state;
  document = ap (λ (x : State). x.document) does.state;
  trees = ap (λ (x : State). x.trees) does.state;
  calls_left = ap (λ (x : State). x.calls_left) does.state;
}

pub settling_unseen : SettlingIsUnseen
settling_unseen s t does = history_kept CellsSettleTo s t does

pub stopping_unseen : StoppingIsUnseen
stopping_unseen s t does = history_kept CellsStopAt s t does

pub claims_unseen : ClaimsAreUnseen
claims_unseen key answer s t does = history_kept (λ d e. CellsAnswerClaim d key answer e) s t does

pub next_claims_unseen : NextClaimsAreUnseen
next_claims_unseen next s t does = history_kept (λ d e. CellsAnswerNext d next e) s t does

pub finishes_unseen : FinishesAreUnseen
finishes_unseen done answer s t does = history_kept (λ d e. CellsFinishTo d done answer e) s t does

pub give_backs_unseen : GiveBacksAreUnseen
give_backs_unseen key number answer s t does = history_kept (λ d e. CellsGiveBackTo d key number answer e) s t does

pub batches_unseen : BatchesAreUnseen
batches_unseen limit claims answer s t does = history_kept (λ d e. CellsClaimSome d limit claims answer e) s t does

pub outcomes_unseen : OutcomesAreUnseen
outcomes_unseen os tally s t does = history_kept (λ d e. CellsFinishAll d os tally e) s t does
