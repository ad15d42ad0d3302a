-- A claim of a cell for the input of its kept pair, which is what it is given now.
use Rattle.std.proofs.Common.{◌≡◌, ◌+◌, ℕ, List, Option, Some, option_map, refl, arith, ap, sym, subst, ◌∙◌}
use Rattle.std.proofs.lemmas.Option.{same_Some}
use Rattle.lay_doc.specs.Document.{Document}
use Rattle.lay_face.specs.FaceValue.{FaceValue}
use Rattle.lay_cells.specs.Looks.{Looks}
use Rattle.lay_cells.specs.Places.{AtPlace}
use Rattle.lay_cells.specs.Reuses.{ReusesIn}
use Rattle.lay_cells.specs.Rows.{Solved}
use Rattle.lay_cells.specs.Sound.{IsSound}
use Rattle.lay_cells.specs.Steps.{ClaimsIn}
use Rattle.lay_cells.specs.declared.answers.Claimed.TheVariants.{Reused}
use Rattle.lay_cells.specs.declared.answers.Look.TheVariants as look
use Rattle.lay_document_cells.proofs.Cited.{one_at, one_row}
use Rattle.lay_shape.specs.declared.cell_key.CellKey.{CellKey}
use Rattle.lay_cell_work.specs.CellInputs.{CellInput}
use Rattle.lay_cell_work.specs.CellLocal.{IsCellLocal}
use Rattle.lay_cell_work.specs.CellValues.{CellValue}
use Rattle.lay_cell_work.specs.CellLaws.SoundCells.{CellRow, CellState}
use Rattle.lay_document_cells.specs.State.{State}
use Rattle.lay_document_cells.specs.Steps.{IsGivenNow}
use Rattle.lay_document_cells.specs.Unchanged.{CanReuseGiven, ReusesGiven}
use Rattle.lay_document_cells.proofs.KeptSteps.{claimed_to, state_of}

module _ (d : Document) (face : FaceValue) (cells : CellState) (laid : ℕ) (s : State) (is : state_of d face cells laid ≡ s) (sound : IsSound IsCellLocal cells)
    (place : ℕ) (can : AtPlace s.cells.rows place (λ r. CanReuseGiven s r)) (t : CellState) (h : AtPlace cells.rows place (λ r. ReusesIn cells r.key t)) where
  pub reused_claims : AtPlace cells.rows place (λ r. ClaimsIn cells r.key h.2.input Reused t)
  reused_claims = (h.0, h.1, h.2.claims)

  here : AtPlace cells.rows place (λ r. CanReuseGiven (state_of d face cells laid) r)
  here = subst (λ (x : State). AtPlace x.cells.rows place (λ r. CanReuseGiven x r)) (sym is) can

  row : h.2.claims.1 ≡ here.0
  row =
      one_row cells.rows sound.shaped h.0.key h.2.claims.1 here.0 (h.2.claims.0, h.2.claims.3.0) h.2.claims.3.1 (place, here.1)
      (ap (λ (z : CellRow). z.key) (one_at cells.rows place here.0 h.0 here.1 h.1))

  -- the input of the claim is that of the kept pair
  same : here.2.keeps.input ≡ h.2.input
  same =
      same_Some here.2.keeps.input h.2.input
      (sym here.2.keeps.kept ∙ ap (λ (z : CellRow). option_map (λ (x : Solved CellKey CellInput CellValue). x.input) z.kept) (sym row) ∙ h.2.claims.4.1)

  pub reused_given : AtPlace s.cells.rows place (λ r. IsGivenNow s r.key h.2.input)
  reused_given =
      subst (λ (x : State). AtPlace x.cells.rows place (λ r. IsGivenNow x r.key h.2.input)) is
      (here.0, here.1, subst (λ (i : CellInput). IsGivenNow (state_of d face cells laid) here.0.key i) same here.2.keeps.given)

  pub reused_to : AtPlace s.cells.rows place (λ r. Looks s.cells.rows r.key look.Ready) → AtPlace s.cells.rows place (λ r. ReusesGiven s r.key (state_of d face t laid))
  reused_to ready =
      let c = claimed_to d face cells laid s is place h.2.input Reused t laid ready reused_given reused_claims (omega arith) in
      (c.0, c.1, record { input = h.2.input; claims = c.2 })
