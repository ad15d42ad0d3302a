-- The claims that a core grants in a batch are for what cells are given among the contexts of its document, which goes one way.
use Rattle.std.proofs.Common.{◌≡◌, inl, inr, ℕ, List, slice_get, Option, Result, Some, refl, ap, sym, subst, ◌∙◌}
use Rattle.lay_units.specs.declared.memory.NoMemory.{NoMemory}
use Rattle.lay_doc.specs.Document.{Document, IsDocument}
use Rattle.lay_core.proofs.Cited.{get_more}
use Rattle.lay_context.specs.Solves.{medium_of}
use Rattle.lay_shape.specs.declared.cell_key.CellKey.{CellKey}
use Rattle.lay_cell_work.specs.CellLaws.Laws.{PresentInputsLeadInward}
use Rattle.lay_cell_work.specs.CellInputFits.{LeadsInward}
use Rattle.lay_cell_work.specs.CellInputs.{CellInput}
use Rattle.lay_cell_work.specs.Claims.{Claim}
use Rattle.lay_cell_work.specs.KeptValues.{kept_workings}
use Rattle.lay_document_cells.specs.Batches.{CellsClaimSome, Grants, fewer, full, more, none as no_grants, start}
use Rattle.lay_document_cells.specs.Claims.{CellsAnswerNext, Passes, none as none_passed, reused, taken}
use Rattle.lay_document_cells.specs.declared.answers.Next.TheVariants.{Granted}
use Rattle.lay_document_cells.specs.declared.idle.IdleKind.{IdleKind}
use Rattle.lay_document_cells.specs.State.{State as DocumentCells}
use Rattle.lay_document_cells.specs.Steps.{IsGivenNow}
use Rattle.lay_core.specs.State.{document_cells}
use Rattle.lay_core.specs.CoreLaws.Laws.{GrantedBatchesAreOneByOne, GrantedClaimsHaveOneWork}
use Rattle.lay_cell_work.specs.OutcomeLaws.Laws.{BatchesAreOneByOne, OneWork}
use Rattle.lay_core.proofs.CoreLawsLemmas.OneLists.{in_order}

-- claims leave the document
passes_stay : (s t : DocumentCells) → Passes s t → t.document ≡ s.document
passes_stay s _ none_passed = refl
passes_stay s t (reused key mid _ before does) = ap (λ (x : DocumentCells). x.document) does.claims.state ∙ passes_stay s mid before
passes_stay s t (taken key number mid _ before does) = ap (λ (x : DocumentCells). x.document) does.claims.state ∙ passes_stay s mid before

granted_stays : (s t : DocumentCells) (c : Claim) → CellsAnswerNext s (Granted c) t → t.document ≡ s.document
granted_stays s t c does = ap (λ (x : DocumentCells). x.document) does.1.grants.claims.state ∙ passes_stay s does.1.before does.1.passes

grants_stay : (s t : DocumentCells) (claims : List Claim) → Grants s claims t → t.document ≡ s.document
grants_stay s _ _ start = refl
grants_stay s t _ (more before c mid _ grants last) = granted_stays mid t c last ∙ grants_stay s mid before grants

module _ (inward : PresentInputsLeadInward) where
  given_inward : (s : DocumentCells) (key : CellKey) (input : CellInput) → IsDocument s.document → IsGivenNow s key input → LeadsInward input
  given_inward s key input is g =
      subst (λ (i : CellInput). LeadsInward i) (sym g.input_is)
      (inward (medium_of s.document s.face) g.lists.contexts g.lists.formatting_contexts (kept_workings s.cells.rows g.lists.contexts) g.context g.phase
      (in_order s.document g.lists is g.lists_are) g.lists_are.1.are_formatting_contexts g.within)

  granted_inward : (s t : DocumentCells) (c : Claim) → IsDocument s.document → CellsAnswerNext s (Granted c) t → LeadsInward c.input
  granted_inward s t c is does =
      let first = does.1 in
      given_inward first.before c.key c.input (subst (λ (d : Document). IsDocument d) (sym (passes_stay s first.before first.passes)) is) first.grants.claims.given

  grants_inward : (s t : DocumentCells) (claims : List Claim) → IsDocument s.document → Grants s claims t
      → (place : ℕ) (c : Claim) → slice_get claims place ≡ Some c → LeadsInward c.input
  grants_inward s _ _ is start place c at = absurd cc
  grants_inward s t _ is (more before last mid _ grants does) place c at = elim (get_more before last c place at) [
    | inl old ↦ grants_inward s mid before is grants place c old.1
    | inr new ↦ subst (λ (x : Claim). LeadsInward x.input) new.1
        (granted_inward mid t last (subst (λ (d : Document). IsDocument d) (sym (grants_stay s mid before grants)) is) does)
  ]

  batch_inward : (s t : DocumentCells) (limit : ℕ) (claims : List Claim) (answer : Result (Option IdleKind) NoMemory) → IsDocument s.document
      → CellsClaimSome s limit claims answer t → (place : ℕ) (c : Claim) → slice_get claims place ≡ Some c → LeadsInward c.input
  batch_inward s t limit claims answer is (full _ _ grants long) place c at = grants_inward s t claims is grants place c at
  batch_inward s t limit claims answer is (fewer _ last mid _ grants some short end) place c at = grants_inward s mid claims is grants place c at
  batch_inward s t limit claims answer is (no_grants first _ _ end is_answer) place c at = absurd cc

pub granted_claims_have_one_work_lem : PresentInputsLeadInward → OneWork → GrantedClaimsHaveOneWork
granted_claims_have_one_work_lem inward law s t limit claims answer place c d e core does at x y =
    law c d e (batch_inward inward (document_cells s) (document_cells t) limit claims answer core.sound.cells.is_document does.does place c at) x y

pub granted_batches_are_one_by_one_lem : PresentInputsLeadInward → BatchesAreOneByOne → GrantedBatchesAreOneByOne
granted_batches_are_one_by_one_lem inward law s t limit claims answer outcomes place c d e core does are at done alone =
    law claims outcomes place c d e are at
    (batch_inward inward (document_cells s) (document_cells t) limit claims answer core.sound.cells.is_document does.does place c at) done alone
