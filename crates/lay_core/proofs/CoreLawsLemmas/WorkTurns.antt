-- Work on the cells of a document hands in for each cell what that is given in the layout of the document, and keeps the cells its cells.
use Rattle.std.proofs.Common.{◌≡◌, ⊎_elim, inl, inr, ◌<◌, ◌+◌, ℕ, List, length, slice_set, Option, Some, ap, sym, subst, ◌∙◌, arith}
use Rattle.lay_doc.specs.Document.{Document}
use Rattle.lay_doc.specs.Laws.{OneStyleColumn}
use Rattle.lay_face.specs.FaceValue.{FaceValue}
use Rattle.lay_cells.specs.Looks.{Looks}
use Rattle.lay_cells.specs.Rows.{Solved}
use Rattle.lay_cells.specs.Shapes.{IsIn}
use Rattle.lay_cells.specs.Sound.{IsSound}
use Rattle.lay_cells.specs.Steps.{Claims, ClaimsIn, Finishes, FinishesIn, GivesBack, GivesBackIn, draws_after}
use Rattle.lay_cells.specs.declared.answers.Claimed.{Claimed}
use Rattle.lay_cells.specs.declared.answers.Claimed.TheVariants.{Granted, Reused, Taken}
use Rattle.lay_cells.specs.declared.answers.Finished.{Finished}
use Rattle.lay_cells.specs.declared.answers.Finished.TheVariants as finished
use Rattle.lay_cells.specs.declared.answers.Look.TheVariants.{Ready}
use Rattle.lay_cells.specs.declared.answers.Released.{Released}
use Rattle.lay_cells.specs.declared.answers.Released.TheVariants as released
use Rattle.lay_core.proofs.Cited.{claim_row, claims_keep_cells_lem, draws_more, finish_row, finishes_keep_cells_lem, give_back_row, give_backs_keep_cells_lem, ready_at, set_cases, set_sound}
use Rattle.lay_contexts.specs.FormattingLaws.{OneFormattingContextList}
use Rattle.lay_contexts.specs.Laws.{OneContextList}
use Rattle.lay_context.specs.Medium.{Medium}
use Rattle.lay_context.specs.Solves.{medium_of}
use Rattle.lay_shape.specs.Touched.ContextFlags.{ContextLists}
use Rattle.lay_shape.specs.declared.cell_key.CellKey.{CellKey}
use Rattle.lay_shape.specs.declared.context_phase.ContextPhase.{ContextPhase}
use Rattle.lay_shape.specs.Keys.{key_of}
use Rattle.lay_cell_work.specs.CellLaws.DocumentCells.{AreDocumentCells}
use Rattle.lay_cell_work.specs.CellLaws.KeptInputs.{InputsAreKept}
use Rattle.lay_cell_work.specs.CellLaws.SoundCells.{CellRow, CellState, input_now}
use Rattle.lay_cell_work.specs.CellInputs.{CellInput}
use Rattle.lay_cell_work.specs.CellLocal.{IsCellLocal}
use Rattle.lay_cell_work.specs.CellValues.{CellValue}
use Rattle.lay_document_cells.specs.State.{AreListsOf, State}
use Rattle.lay_document_cells.specs.Steps.{ClaimsTo, Step, Works, claim, finish, give_back, none, step}
use Rattle.lay_core.specs.CoreLaws.GivenInputs.{IsGivenIn}
use Rattle.lay_core.proofs.CoreLawsLemmas.OneLists.{one_lists}
use Rattle.lay_core.proofs.CoreLawsLemmas.ReadyGiven.{ready_given}
use Rattle.lay_core.proofs.CoreLawsLemmas.TurnSteps.{TurnsTo}

-- what holds of the key, the last input and the turns of each of these rows
abbrev pub HoldsOfAll : (CellKey → Option CellInput → ℕ → Type 0) → List CellRow → Type 0
HoldsOfAll P rows = (r : CellRow) → IsIn rows r → P r.key r.given r.turns

module _ (d : Document) (face : FaceValue) (P : CellKey → Option CellInput → ℕ → Type 0)
    (handed : (key : CellKey) (given : Option CellInput) (turns : ℕ) (input : CellInput) (n : ℕ) → P key given turns → IsGivenIn d face key input → TurnsTo given turns input n → P key (Some input) n) where
  abbrev Holds : CellRow → Type 0
  Holds r = P r.key r.given r.turns

  set_holds : (rows : List CellRow) (i : ℕ) (q : CellRow) → HoldsOfAll P rows → Holds q → HoldsOfAll P (slice_set rows i q)
  set_holds rows i q all own z has =
      ⊎_elim (λ h. subst (λ (x : CellRow). Holds x) (sym h.1) own) (λ h. all z (has.0, h.1)) (set_cases rows i q has.0 z has.1)

  claimed_row : (r q : CellRow) (number : ℕ) (input : CellInput) (a : Claimed) → Holds r → IsGivenIn d face r.key input → Claims r number input a q → Holds q
  claimed_row r q number input (Taken n) own given h = subst (λ (x : CellRow). Holds x) (sym h.2) own
  claimed_row r q number input Reused own given h =
      subst (λ (x : CellRow). Holds x) (sym h.3) (handed r.key r.given r.turns input q.turns own given h.2)
  claimed_row r q number input (Granted n) own given h =
      subst (λ (x : CellRow). Holds x) (sym h.4) (handed r.key r.given r.turns input q.turns own given h.3)

  finished_row : (r q : CellRow) (done : Solved CellKey CellInput CellValue) (a : Finished) → Holds r → Finishes r done a q → Holds q
  finished_row r q done finished.Gone own h = subst (λ (x : CellRow). Holds x) (sym h.1) own
  finished_row r q done (finished.Superseded n) own h = subst (λ (x : CellRow). Holds x) (sym h.3) own
  finished_row r q done finished.Stored own h = subst (λ (x : CellRow). Holds x) (sym h.3) own
  finished_row r q done finished.Cleaned own h = subst (λ (x : CellRow). Holds x) (sym h.3) own

  given_back_row : (r q : CellRow) (number : ℕ) (a : Released) → Holds r → GivesBack r number a q → Holds q
  given_back_row r q number released.Gone own h = subst (λ (x : CellRow). Holds x) (sym h.1) own
  given_back_row r q number (released.Superseded n) own h = subst (λ (x : CellRow). Holds x) (sym h.3) own
  given_back_row r q number released.Released own h = subst (λ (x : CellRow). Holds x) (sym h.2) own

  -- these are the cells of the document, and P holds of each
  pub record AreHeld (lists : ContextLists) (s : CellState) : Type 0 where
    pub cells : AreDocumentCells d face lists.contexts lists.formatting_contexts s
    pub holds : HoldsOfAll P s.rows

  module _ (kept : InputsAreKept) (lists : ContextLists) (s t : CellState) (is : AreHeld lists s) where
    sound_now : IsSound IsCellLocal s
    sound_now = is.cells.cells.sound

    claim_keeps : (c : ContextPhase) → c.context < length lists.contexts → Looks s.rows (key_of lists.contexts c) Ready → (a : Claimed)
        → ClaimsIn s (key_of lists.contexts c) (input_now (medium_of d face) lists.contexts lists.formatting_contexts s.rows c.context c.phase) a t → AreHeld lists t
    claim_keeps c lt ready a h =
        let input : CellInput = input_now (medium_of d face) lists.contexts lists.formatting_contexts s.rows c.context c.phase in
        let given = ready_given d face lists.contexts lists.formatting_contexts s is.cells c lt ready in
        let looks = ready_at s.rows sound_now.shaped (key_of lists.contexts c) ready h.0 h.1 h.3.0 h.3.1 in
        let fits = claim_row IsCellLocal s.rows s.draws h.1 (sound_now.each h.1 (h.0, h.3.0)) h.2 input looks.1 looks.0 a h.4 in
        let sound : IsSound IsCellLocal t =
        subst (λ (x : CellState). IsSound IsCellLocal x) (sym h.5)
        (set_sound IsCellLocal s.rows s.draws (draws_after a s.draws) sound_now (draws_more a s.draws) h.0 h.1 h.2 h.3.0 fits) in
        let own : Holds h.2 =
        claimed_row h.1 h.2 (s.draws + 1) input a (is.holds h.1 (h.0, h.3.0))
        (subst (λ (key : CellKey). IsGivenIn d face key input) (sym h.3.1) given) h.4 in
        record {
          cells = claims_keep_cells_lem kept d face lists.contexts lists.formatting_contexts s t c.context c.phase a is.cells lt h sound;
          holds = subst (λ (x : CellState). HoldsOfAll P x.rows) (sym h.5) (set_holds s.rows h.0 h.2 is.holds own);
        }

    finish_keeps : (done : Solved CellKey CellInput CellValue) → IsCellLocal done.input done.value → (a : Finished) → FinishesIn s done a t → AreHeld lists t
    finish_keeps done right a (inl gone) = subst (λ (x : CellState). AreHeld lists x) (sym gone.2) is
    finish_keeps done right a (inr h) =
        let fits = finish_row IsCellLocal s.rows s.draws h.1 (sound_now.each h.1 (h.0, h.3.0)) h.2 done right (sym h.3.1) a h.4 in
        let sound : IsSound IsCellLocal t =
        subst (λ (x : CellState). IsSound IsCellLocal x) (sym h.5)
        (set_sound IsCellLocal s.rows s.draws s.draws sound_now (omega arith) h.0 h.1 h.2 h.3.0 fits) in
        record {
          cells = finishes_keep_cells_lem kept d face lists.contexts lists.formatting_contexts s t done a is.cells (inr h) sound;
          holds = subst (λ (x : CellState). HoldsOfAll P x.rows) (sym h.5)
              (set_holds s.rows h.0 h.2 is.holds (finished_row h.1 h.2 done a (is.holds h.1 (h.0, h.3.0)) h.4));
        }

    give_back_keeps : (key : CellKey) (number : ℕ) (a : Released) → GivesBackIn s key number a t → AreHeld lists t
    give_back_keeps key number a (inl gone) = subst (λ (x : CellState). AreHeld lists x) (sym gone.2) is
    give_back_keeps key number a (inr h) =
        let fits = give_back_row IsCellLocal s.rows s.draws h.1 (sound_now.each h.1 (h.0, h.3.0)) h.2 number a h.4 in
        let sound : IsSound IsCellLocal t =
        subst (λ (x : CellState). IsSound IsCellLocal x) (sym h.5)
        (set_sound IsCellLocal s.rows s.draws s.draws sound_now (omega arith) h.0 h.1 h.2 h.3.0 fits) in
        record {
          cells = give_backs_keep_cells_lem kept d face lists.contexts lists.formatting_contexts s t key number a is.cells (inr h) sound;
          holds = subst (λ (x : CellState). HoldsOfAll P x.rows) (sym h.5)
              (set_holds s.rows h.0 h.2 is.holds (given_back_row h.1 h.2 number a (is.holds h.1 (h.0, h.3.0)) h.4));
        }

  module _ (columns : OneStyleColumn) (contexts : OneContextList) (all : OneFormattingContextList) (kept : InputsAreKept) (lists : ContextLists) (lists_are : AreListsOf d lists) where
    -- a document with its cells that is so
    pub record IsHeld (s : State) : Type 0 where
      pub document : s.document ≡ d
      pub face_is : s.face ≡ face
      pub held : AreHeld lists s.cells

    claim_step : (s t : State) (key : CellKey) (input : CellInput) (a : Claimed) → IsHeld s → ClaimsTo s key input a t → IsHeld t
    claim_step s t key input a is c =
        let g = c.given in
        let same : g.lists ≡ lists =
        one_lists columns contexts all d g.lists lists is.held.cells.is_document (subst (λ (x : Document). AreListsOf x g.lists) is.document g.lists_are) lists_are in
        let cell : ContextPhase = record { context = g.context; phase = g.phase } in
        let held : AreHeld g.lists s.cells = subst (λ (l : ContextLists). AreHeld l s.cells) (sym same) is.held in
        let medium : medium_of s.document s.face ≡ medium_of d face = ap (λ (x : Document). medium_of x s.face) is.document ∙ ap (medium_of d) is.face_is in
        let input_is : input ≡ input_now (medium_of d face) g.lists.contexts g.lists.formatting_contexts s.cells.rows g.context g.phase =
        g.input_is ∙ ap (λ (m : Medium). input_now m g.lists.contexts g.lists.formatting_contexts s.cells.rows g.context g.phase) medium in
        let after : AreHeld g.lists c.cells =
        claim_keeps kept g.lists s.cells c.cells held cell g.within (subst (λ (x : CellKey). Looks s.cells.rows x Ready) g.key_is c.ready) a
        (subst (λ (i : CellInput). ClaimsIn s.cells (key_of g.lists.contexts cell) i a c.cells) input_is
        (subst (λ (x : CellKey). ClaimsIn s.cells x input a c.cells) g.key_is c.claims)) in
        subst (λ (x : State). IsHeld x) (sym c.state)
        (record { document = is.document; face_is = is.face_is; held = subst (λ (l : ContextLists). AreHeld l c.cells) same after })

    one_step : (s t : State) → IsHeld s → Step s t → IsHeld t
    one_step s t is (claim key input a _ c) = claim_step s t key input a is c
    one_step s t is (finish done a _ f) =
        subst (λ (x : State). IsHeld x) (sym f.state)
        (record { document = is.document; face_is = is.face_is; held = finish_keeps kept lists s.cells f.cells is.held done f.right a f.finishes })
    one_step s t is (give_back key number a _ g) =
        subst (λ (x : State). IsHeld x) (sym g.state)
        (record { document = is.document; face_is = is.face_is; held = give_back_keeps kept lists s.cells g.cells is.held key number a g.gives_back })

    pub works_keep : (s t : State) → IsHeld s → Works s t → IsHeld t
    works_keep s _ is none = is
    works_keep s t is (step mid _ before last) = one_step mid t (works_keep s mid is before) last
