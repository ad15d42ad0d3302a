-- What a document with its cells keeps, through work on a cell.
use Rattle.std.proofs.Common.{◌≡◌, ℕ, ◌+◌, ◌≤◌, List, slice_get, Some, refl, arith, ap, sym, subst, ◌∙◌}
use Rattle.lay_doc.specs.Document.{Document}
use Rattle.lay_doc.specs.Laws.{OneStyleColumn}
use Rattle.lay_face.specs.FaceValue.{FaceValue}
use Rattle.lay_contexts.specs.FormattingLaws.{OneFormattingContextList}
use Rattle.lay_contexts.specs.Laws.{OneContextList}
use Rattle.lay_context.specs.Medium.{Medium}
use Rattle.lay_cells.specs.Looks.{Looks}
use Rattle.lay_cells.specs.Places.{AtPlace}
use Rattle.lay_cells.specs.Sound.{IsSound}
use Rattle.lay_cells.specs.Steps.{ClaimsIn, FinishesIn, GivesBackIn, draws_after}
use Rattle.lay_cells.specs.declared.answers.Claimed.{Claimed}
use Rattle.lay_cells.specs.declared.answers.Claimed.TheVariants.{Granted, Reused, Taken}
use Rattle.lay_cells.specs.declared.answers.Finished.{Finished}
use Rattle.lay_cells.specs.declared.answers.Look.TheVariants as look
use Rattle.lay_cells.specs.declared.answers.Released.{Released}
use Rattle.lay_document_cells.proofs.Cited.{one_at}
use Rattle.lay_shape.specs.declared.cell_key.CellKey.{CellKey}
use Rattle.lay_cells.specs.Progress.Grants.{ClaimsCount, FinishesCount, GiveBacksCount, grants, laid_of_all}
use Rattle.lay_cells.specs.Progress.Progress.{FinishesKeepRows, GiveBacksKeepRows}
use Rattle.lay_cell_work.specs.CellInputs.{CellInput}
use Rattle.lay_cell_work.specs.CellLocal.{IsCellLocal}
use Rattle.lay_cell_work.specs.CellValues.{CellValue}
use Rattle.lay_cell_work.specs.PresentInputs.{key_of}
use Rattle.lay_cell_work.specs.CellLaws.SoundCells.{CellRow, CellState}
use Rattle.lay_cell_work.specs.CellLaws.DocumentCells.{AreDocumentCells}
use Rattle.lay_kept_cells.specs.Steps.CellSteps.{ClaimsKeepCells, FinishesKeepCells, GiveBacksKeepCells}
use Rattle.lay_shape.specs.Touched.ContextFlags.{ContextLists}
use Rattle.lay_document_cells.specs.Kept.{IsKept, TableValue}
use Rattle.lay_document_cells.specs.State.{AreListsOf, State}
use Rattle.lay_document_cells.specs.Steps.{ClaimsTo, CellsFinishTo, CellsGiveBackTo, IsGivenNow}
use Rattle.lay_cell_work.specs.ClaimLists.Outcomes.{Work}
use Rattle.lay_document_cells.proofs.OneEdits.{one_lists}

abbrev pub state_of : Document → FaceValue → CellState → ℕ → State
state_of d face cells laid = record { document = d; face = face; cells = cells; laid = laid }

draws_enough : (a : Claimed) (draws : ℕ) → draws + grants a ≤ draws_after a draws
draws_enough (Granted n) draws = omega arith
draws_enough Reused draws = omega arith
draws_enough (Taken n) draws = omega arith

-- an answer that is no grant counts for nothing
pub no_grant : (laid : ℕ) (a : Claimed) → ((n : ℕ) → a ≡ Granted n → ⊥) → laid ≡ laid + grants a
no_grant laid (Granted n) other = absurd (other n refl)
no_grant laid Reused other = omega arith
no_grant laid (Taken n) other = omega arith

module _ (d : Document) (face : FaceValue) (cells : CellState) (laid : ℕ) where
  pub claim_kept : ClaimsKeepCells → ClaimsCount CellKey CellInput CellValue → OneStyleColumn → OneContextList → OneFormattingContextList
      → (s : State) → state_of d face cells laid ≡ s → (medium : Medium) (table : TableValue) → IsKept (state_of d face cells laid) medium table
      → (place : ℕ) (input : CellInput) (a : Claimed) (t : CellState) (m : ℕ)
      → AtPlace s.cells.rows place (λ r. IsGivenNow s r.key input) → AtPlace cells.rows place (λ r. ClaimsIn cells r.key input a t)
      → IsSound IsCellLocal t → m ≡ laid + grants a → IsKept (state_of d face t m) medium table
  claim_kept law counts columns contexts all s is medium table kept place input a t m given claims sound counted =
      let here : AtPlace cells.rows place (λ r. IsGivenNow (state_of d face cells laid) r.key input) =
      subst (λ (x : State). AtPlace x.cells.rows place (λ r. IsGivenNow x r.key input)) (sym is) given in
      let g = here.2 in
      let row : here.0 ≡ claims.0 = one_at cells.rows place here.0 claims.0 here.1 claims.1 in
      let lists : g.lists ≡ table.lists = one_lists columns contexts all d g.lists table.lists kept.cells.is_document g.lists_are (table.styles, kept.lists_are) in
      let in_key = subst (λ k. ClaimsIn cells k input a t) (sym (ap (λ (r : CellRow). r.key) row) ∙ g.key_is) claims.2 in
      let in_input = subst (λ i. ClaimsIn cells (key_of g.lists.contexts g.context g.phase) i a t) g.input_is in_key in
      let after = law d face g.lists.contexts g.lists.formatting_contexts cells t g.context g.phase a
      (subst (λ (l : ContextLists). AreDocumentCells d face l.contexts l.formatting_contexts cells) (sym lists) kept.cells) g.within in_input sound in
      let count = counts cells t claims.0.key input a claims.2 in
      let draws : t.draws ≡ draws_after a cells.draws = ap (λ (x : CellState). x.draws) claims.2.5 in
      let enough = draws_enough a cells.draws in
      record {
        medium_is = kept.medium_is;
        lists_are = kept.lists_are;
        cells = subst (λ (l : ContextLists). AreDocumentCells d face l.contexts l.formatting_contexts t) lists after;
        counted = omega (arith, count, kept.counted, counted);
        drawn = omega (arith, counted, draws, enough, kept.drawn);
      }

  pub claimed_to : (s : State) → state_of d face cells laid ≡ s → (place : ℕ) (input : CellInput) (a : Claimed) (t : CellState) (m : ℕ)
      → AtPlace s.cells.rows place (λ r. Looks s.cells.rows r.key look.Ready) → AtPlace s.cells.rows place (λ r. IsGivenNow s r.key input)
      → AtPlace cells.rows place (λ r. ClaimsIn cells r.key input a t) → m ≡ laid + grants a
      → AtPlace s.cells.rows place (λ r. ClaimsTo s r.key input a (state_of d face t m))
  claimed_to s is place input a t m ready given claims counted =
      subst (λ (x : State). AtPlace x.cells.rows place (λ r. Looks x.cells.rows r.key look.Ready) → AtPlace x.cells.rows place (λ r. IsGivenNow x r.key input)
      → AtPlace x.cells.rows place (λ r. ClaimsTo x r.key input a (state_of d face t m))) is here ready given
    where
      here : AtPlace cells.rows place (λ r. Looks cells.rows r.key look.Ready) → AtPlace cells.rows place (λ r. IsGivenNow (state_of d face cells laid) r.key input)
          → AtPlace cells.rows place (λ r. ClaimsTo (state_of d face cells laid) r.key input a (state_of d face t m))
      here looks now =
          let first : looks.0 ≡ claims.0 = one_at cells.rows place looks.0 claims.0 looks.1 claims.1 in
          let second : now.0 ≡ claims.0 = one_at cells.rows place now.0 claims.0 now.1 claims.1 in (
            claims.0,
            claims.1,
            record {
              ready = subst (λ (r : CellRow). Looks cells.rows r.key look.Ready) first looks.2;
              given = subst (λ (r : CellRow). IsGivenNow (state_of d face cells laid) r.key input) second now.2;
              cells = t;
              claims = claims.2;
              state = ap (λ n. state_of d face t n) counted;
            },
          )

  module _ (medium : Medium) (table : TableValue) (kept : IsKept (state_of d face cells laid) medium table) where
    pub finish_kept : FinishesKeepCells → FinishesCount CellKey CellInput CellValue → FinishesKeepRows CellKey CellInput CellValue
        → (done : Work) (a : Finished) (t : CellState) → FinishesIn cells done a t → IsSound IsCellLocal t → IsKept (state_of d face t laid) medium table
    finish_kept law counts rows done a t h sound =
        let count = counts cells t done a h in
        let same = (rows cells t done a h).1 in
        record {
          medium_is = kept.medium_is;
          lists_are = kept.lists_are;
          cells = law d face table.lists.contexts table.lists.formatting_contexts cells t done a kept.cells h sound;
          counted = omega (arith, count, kept.counted);
          drawn = omega (arith, same, kept.drawn);
        }

    pub give_back_kept : GiveBacksKeepCells → GiveBacksCount CellKey CellInput CellValue → GiveBacksKeepRows CellKey CellInput CellValue
        → (key : CellKey) (number : ℕ) (a : Released) (t : CellState) → GivesBackIn cells key number a t → IsSound IsCellLocal t
        → IsKept (state_of d face t laid) medium table
    give_back_kept law counts rows key number a t h sound =
        let count = counts cells t key number a h in
        let same = (rows cells t key number a h).1 in
        record {
          medium_is = kept.medium_is;
          lists_are = kept.lists_are;
          cells = law d face table.lists.contexts table.lists.formatting_contexts cells t key number a kept.cells h sound;
          counted = omega (arith, count, kept.counted);
          drawn = omega (arith, same, kept.drawn);
        }

  pub finished_to : (s : State) → state_of d face cells laid ≡ s → (done : Work) (a : Finished) (t : CellState) → FinishesIn cells done a t
      → IsCellLocal done.input done.value → CellsFinishTo s done a (state_of d face t laid)
  finished_to s is done a t h right =
      subst (λ (x : State). CellsFinishTo x done a (state_of d face t laid)) is record { right = right; cells = t; finishes = h; state = refl }

  pub given_back_to : (s : State) → state_of d face cells laid ≡ s → (key : CellKey) (number : ℕ) (a : Released) (t : CellState) → GivesBackIn cells key number a t
      → CellsGiveBackTo s key number a (state_of d face t laid)
  given_back_to s is key number a t h =
      subst (λ (x : State). CellsGiveBackTo x key number a (state_of d face t laid)) is record { cells = t; gives_back = h; state = refl }
