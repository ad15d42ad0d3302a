-- Work on the cells of a document leaves it and its face as they are, and the number of grants never falls.
use Rattle.std.proofs.Common.{◌≡◌, ◌≤◌, ℕ, refl, ap, ◌∙◌, arith}
use Rattle.lay_cells.specs.declared.answers.Claimed.{Claimed}
use Rattle.lay_cells.specs.declared.answers.Finished.{Finished}
use Rattle.lay_cells.specs.declared.answers.Released.{Released}
use Rattle.lay_shape.specs.declared.cell_key.CellKey.{CellKey}
use Rattle.lay_cell_work.specs.CellInputs.{CellInput}
use Rattle.lay_document_cells.specs.Settling.{GivesUp, Settles, SettlesFirst, CellsSettleTo, CellsStopAt, computed, granted, next, none, reused, taken, unclaimed}
use Rattle.lay_document_cells.specs.State.{State as DocumentCells}
use Rattle.lay_document_cells.specs.Steps.{ClaimsTo, CellsFinishTo, CellsGiveBackTo, Step, Works, claim, finish, give_back, none as no_step, step}
use Rattle.lay_cell_work.specs.ClaimLists.Outcomes.{Work}

pub record IsWork (s t : DocumentCells) : Type 0 where
  pub document : t.document ≡ s.document
  pub face : t.face ≡ s.face
  pub laid : s.laid ≤ t.laid

pub no_work : (s t : DocumentCells) → t ≡ s → IsWork s t
no_work s t same = record {
  document = ap (λ x. x.document) same;
  face = ap (λ x. x.face) same;
  laid = let e = ap (λ x. x.laid) same in omega (arith, e);
}

then_work : (s m t : DocumentCells) → IsWork s m → IsWork m t → IsWork s t
then_work s m t a b = record {
  document = b.document ∙ a.document;
  face = b.face ∙ a.face;
  laid = let x = a.laid in let y = b.laid in omega (arith, x, y);
}

claim_work : (s : DocumentCells) (key : CellKey) (input : CellInput) (a : Claimed) (t : DocumentCells) → ClaimsTo s key input a t → IsWork s t
claim_work s key input a t does = record {
  document = ap (λ x. x.document) does.state;
  face = ap (λ x. x.face) does.state;
  laid = let e = ap (λ x. x.laid) does.state in omega (arith, e);
}

pub finish_work : (s : DocumentCells) (d : Work) (a : Finished) (t : DocumentCells) → CellsFinishTo s d a t → IsWork s t
finish_work s d a t does = record {
  document = ap (λ x. x.document) does.state;
  face = ap (λ x. x.face) does.state;
  laid = let e = ap (λ x. x.laid) does.state in omega (arith, e);
}

pub back_work : (s : DocumentCells) (key : CellKey) (number : ℕ) (a : Released) (t : DocumentCells) → CellsGiveBackTo s key number a t → IsWork s t
back_work s key number a t does = record {
  document = ap (λ x. x.document) does.state;
  face = ap (λ x. x.face) does.state;
  laid = let e = ap (λ x. x.laid) does.state in omega (arith, e);
}

-- settling
first_work : (s t : DocumentCells) → SettlesFirst s t → IsWork s t
first_work s t (reused key input t-1 does) = claim_work s key input _ t does.claims
first_work s t (computed key input value a number mid t-1 claims number_is finishes) =
    then_work s mid t (claim_work s key input a mid claims.claims) (finish_work mid _ _ t finishes)

settles_work : (s t : DocumentCells) → Settles s t → IsWork s t
settles_work s t none = no_work s s refl
settles_work s t (next mid t-1 before first) = then_work s mid t (settles_work s mid before) (first_work mid t first)

pub settle_work : (s t : DocumentCells) → CellsSettleTo s t → IsWork s t
settle_work s t does = settles_work s t does.settles

gives_up_work : (s t : DocumentCells) → GivesUp s t → IsWork s t
gives_up_work s t unclaimed = no_work s s refl
gives_up_work s t (taken key input number t-1 does) = claim_work s key input _ t does.claims
gives_up_work s t (granted key input number mid t-1 does back) =
    then_work s mid t (claim_work s key input _ mid does.claims) (back_work mid key number _ t back)

pub stop_work : (s t : DocumentCells) → CellsStopAt s t → IsWork s t
stop_work s t does = then_work s does.before t (settles_work s does.before does.settles) (gives_up_work does.before t does.gives_up)

-- any work
step_work : (s t : DocumentCells) → Step s t → IsWork s t
step_work s t (claim key input a t-1 does) = claim_work s key input a t does
step_work s t (finish d a t-1 does) = finish_work s d a t does
step_work s t (give_back key number a t-1 does) = back_work s key number a t does

pub works_work : (s t : DocumentCells) → Works s t → IsWork s t
works_work s t no_step = no_work s s refl
works_work s t (step mid t-1 before last) = then_work s mid t (works_work s mid before) (step_work mid t last)
