-- Whatever calls came to a core, what was handed in for each cell last was given to it in some version, after as many turns as it has.
use Rattle.std.proofs.Common.{◌≡◌, inl, inr, ◌≤◌, ◌+◌, ℕ, List, [], ◌∷◌, ◌++◌, slice_get, Option, None, Some, refl, ap, sym, subst, ◌∙◌, arith}
use Rattle.lay_doc.specs.Document.{Document}
use Rattle.lay_doc.specs.Laws.{OneStyleColumn}
use Rattle.lay_doc.specs.declared.edit.Edit.{Edit as Change}
use Rattle.lay_history.specs.declared.edits.command.Reply.TheVariants.{Accepted}
use Rattle.lay_history.specs.declared.edits.history.Entry.{Entry}
use Rattle.lay_history.specs.declared.edits.history.Entry.TheVariants.{Edit}
use Rattle.lay_face.specs.FaceValue.{FaceValue}
use Rattle.lay_history.specs.Histories.{accepted, doc_at}
use Rattle.lay_core.proofs.Cited.{accepted_more, in_order, row_of}
use Rattle.lay_cells.specs.Shapes.{IsIn}
use Rattle.lay_contexts.specs.FormattingLaws.{OneFormattingContextList}
use Rattle.lay_contexts.specs.Laws.{OneContextList}
use Rattle.lay_shape.specs.Shapes.{shape_of}
use Rattle.lay_shape.specs.declared.cell_key.CellKey.{CellKey}
use Rattle.lay_cell_work.specs.CellLaws.KeptInputs.{InputsAreKept}
use Rattle.lay_cell_work.specs.CellLaws.SoundCells.{CellRow, CellState}
use Rattle.lay_cell_work.specs.CellInputs.{CellInput}
use Rattle.lay_document_cells.specs.Edits.{CellsEditTo}
use Rattle.lay_document_cells.specs.Laws.{BatchesWork, ClaimsWork, NextClaimsWork, OutcomesWork}
use Rattle.lay_document_cells.specs.State.{AreListsOf, IsOfDocument, State as DocumentCells}
use Rattle.lay_core.specs.State.{IsCore, State, document_cells}
use Rattle.lay_core.specs.Steps.{EditsTo, IsNewCore}
use Rattle.lay_core.specs.CoreLaws.GivenInputs.{HasCell, IsGivenIn}
use Rattle.lay_core.specs.CoreLaws.InputChanges.{changes}
use Rattle.lay_core.specs.CoreLaws.Laws.{GrantsArePaidByChanges, GrantsAreWithin, OneGivenInput, OriginsStay, TurnsAreChanges, TurnsAreFew, TurnsAreOfVersions, TurnsAreWithin}
use Rattle.lay_core.specs.CoreLaws.ReachedCores.{IsReached, called, new}
use Rattle.lay_core.specs.CoreLaws.Turns.{HasTurned}
use Rattle.lay_core.proofs.CoreLawsLemmas.CarriedTurns.{IsFrom, IsNewRow, IsOldRow, marks_from, rebuilt_from}
use Rattle.lay_core.proofs.CoreLawsLemmas.LaterHistories.{Rests, one_entry}
use Rattle.lay_core.proofs.CoreLawsLemmas.QuietCalls.{Called, IsQuiet, accepts, rests, what_called}
use Rattle.lay_core.proofs.CoreLawsLemmas.TurnSteps.{GoesOn, StaysOn, handed_in, has_turned_on, not_turned, turns_below}
use Rattle.lay_core.proofs.CoreLawsLemmas.WorkTurns.{HoldsOfAll, works_keep}

lists_are : (s : State) (sound : IsOfDocument (document_cells s)) → AreListsOf s.document sound.lists
lists_are s sound = (
  sound.cells.styles,
  record {
    has_styles = sound.cells.has_styles;
    are_contexts = sound.cells.are_contexts;
    are_formatting_contexts = sound.cells.are_formatting_contexts;
  },
)

-- the cell of a row is one of the document
row_has_cell : (s : State) → IsCore s → (r : CellRow) → IsIn s.cells.rows r → HasCell s.document r.key
row_has_cell s is r there =
    let lists = is.sound.lists in
    let cells = is.sound.cells in
    let order = in_order s.document s.face lists.contexts lists.formatting_contexts s.cells cells in
    let at = row_of lists.contexts order s.cells.rows cells.shaped r there in
    record {
      lists = lists;
      lists_are = lists_are s is.sound;
      cell = record { context = at.context; phase = at.phase };
      cell_is = record { within = at.within; key_is = at.key };
    }

-- a core of this document and face, in whose history the inputs of its cells turned
record IsTurning (init : Document) (face : FaceValue) (s : State) : Type 0 where
  core : IsCore s
  init_is : s.init ≡ init
  face_is : s.face ≡ face
  turning : HoldsOfAll (HasTurned init face s.history) s.cells.rows

-- the document is that of the last version
document_now : (init : Document) (s : State) → IsCore s → s.init ≡ init → s.document ≡ doc_at init s.history (accepted s.history)
document_now init s core is = core.document_is ∙ ap (λ (d : Document). doc_at d s.history (accepted s.history)) is

-- a row that is made anew, or that was there before
new_row : (init : Document) (face : FaceValue) (h : List Entry) (r : CellRow) → IsNewRow r → HasTurned init face h r.key r.given r.turns
new_row init face h r is =
    subst (λ (g : Option CellInput). HasTurned init face h r.key g r.turns) (sym is.given)
    (subst (λ (n : ℕ). HasTurned init face h r.key None n) (sym is.turns) (not_turned init face h r.key))

old_row : (init : Document) (face : FaceValue) (h : List Entry) (rows : List CellRow) (r : CellRow) → HoldsOfAll (HasTurned init face h) rows → IsOldRow rows r
    → HasTurned init face h r.key r.given r.turns
old_row init face h rows r all is =
    subst (λ (k : CellKey). HasTurned init face h k r.given r.turns) is.key
    (subst (λ (g : Option CellInput). HasTurned init face h is.row.key g r.turns) is.given
    (subst (λ (n : ℕ). HasTurned init face h is.row.key is.row.given n) is.turns (all is.row is.there)))

row_turns : (init : Document) (face : FaceValue) (h later : List Entry) (on : GoesOn init h later) (rows : List CellRow) (r : CellRow)
    → HoldsOfAll (HasTurned init face h) rows → StaysOn init face h later on r.key → IsFrom rows r → HasTurned init face later r.key r.given r.turns
row_turns init face h later on rows r all stays (inl is) = new_row init face later r is
row_turns init face h later on rows r all stays (inr is) = has_turned_on init face h later on r.key r.given r.turns stays (old_row init face h rows r all is)

-- the cells of an edited document
edited_rows : (s t : State) (edits : List Change) → CellsEditTo (document_cells s) edits (document_cells t)
    → (r : CellRow) → IsIn t.cells.rows r → IsFrom s.cells.rows r
edited_rows s t edits does r there =
    let follows = does.follows in
    let cells : t.cells ≡ does.cells = ap (λ (x : DocumentCells). x.cells) does.state in
    marks_from s.cells.rows follows.shaped.rows does.cells.rows follows.keys follows.marks
    (rebuilt_from s.cells.rows (IsIn []) follows.shaped.rows s.cells.draws (shape_of does.later.contexts) follows.shaped.rows follows.shaped.draws follows.reshapes)
    there.0 r (ap (λ (x : CellState). slice_get x.rows there.0) (sym cells) ∙ there.1)

edit_turns : (init : Document) (face : FaceValue) (s t : State) (editor index : ℕ) (edits : List Change) (v : ℕ) → IsTurning init face s → IsCore t
    → EditsTo s editor index edits (Accepted v) t → IsTurning init face t
edit_turns init face s t editor index edits v is core does =
    let e : Entry = Edit editor index edits (Accepted v) in
    let state = does.2.state in
    let init_now : t.init ≡ init = ap (λ (x : State). x.init) state ∙ is.init_is in
    let later : t.history ≡ s.history ++ e ∷ [] = ap (λ (x : State). x.history) state in
    let on : GoesOn init s.history t.history = subst (λ (h : List Entry). GoesOn init s.history h) (sym later) (one_entry init s.history e) in
    let count : accepted t.history ≡ accepted s.history + 1 = ap accepted later ∙ accepted_more s.history e in
    let document = document_now init t core init_now in
    record {
      core = core;
      init_is = init_now;
      face_is = ap (λ (x : State). x.face) state ∙ is.face_is;
      turning = λ r has.
          row_turns init face s.history t.history on s.cells.rows r is.turning
          (λ w above below.
          let now : accepted t.history ≡ w = omega (arith, count, above, below) in
          subst (λ (n : ℕ). HasCell (doc_at init t.history n) r.key) now
          (subst (λ (d : Document). HasCell d r.key) document (row_has_cell t core r has)))
          (edited_rows s t edits does.2.cells r has);
    }

module _ (columns : OneStyleColumn) (contexts : OneContextList) (all : OneFormattingContextList) (kept : InputsAreKept) (one : OneGivenInput) where
  quiet_turns : (init : Document) (face : FaceValue) (s t : State) → IsTurning init face s → IsCore t → IsQuiet s t → IsTurning init face t
  quiet_turns init face s t is core quiet =
      let document = document_now init s is.core is.init_is in
      let on = subst (λ (d : Document). Rests d s.history t.history) is.init_is quiet.stays.history in
      let held =
      works_keep s.document s.face (HasTurned init face s.history)
      (λ key given turns input n own g to.
      handed_in init face s.history key one input
      (subst (λ (f : FaceValue). IsGivenIn (doc_at init s.history (accepted s.history)) f key input) is.face_is (subst (λ (d : Document). IsGivenIn d s.face key input) document g))
      given turns n own to)
      columns contexts all kept is.core.sound.lists (lists_are s is.core.sound) (document_cells s) (document_cells t)
      (record { document = refl; face_is = refl; held = record { cells = is.core.sound.cells; holds = is.turning } }) quiet.works in
      record {
        core = core;
        init_is = quiet.stays.init ∙ is.init_is;
        face_is = quiet.stays.face ∙ is.face_is;
        turning = λ r has.
            has_turned_on init face s.history t.history on.on r.key r.given r.turns
            (λ v above below. absurd (let c = on.count in omega (arith, c, above, below))) (held.held.holds r has);
      }

  new_turns : (init : Document) (face : FaceValue) (calls : ℕ) (s : State) → IsNewCore init face calls s → IsCore s → IsTurning init face s
  new_turns init face calls s is core =
      let n = is.cells in
      let cells : s.cells ≡ n.cells = ap (λ (x : DocumentCells). x.cells) n.state in
      record {
        core = core;
        init_is = ap (λ (x : State). x.init) is.state;
        face_is = ap (λ (x : State). x.face) is.state;
        turning = λ r has.
            by r (rebuilt_from [] (IsIn []) n.cells.rows 0 (shape_of n.lists.contexts) n.cells.rows n.cells.draws n.made has.0 r
            (ap (λ (x : CellState). slice_get x.rows has.0) (sym cells) ∙ has.1));
      }
    where
      none_there : (r : CellRow) → IsIn [] r → ⊥
      none_there r has = cc (has.1)

      by : (r : CellRow) → IsFrom [] r → HasTurned init face s.history r.key r.given r.turns
      by r (inl made) = new_row init face s.history r made
      by r (inr old) = absurd (none_there old.row old.there)

  module _ (claims_law : ClaimsWork) (next_law : NextClaimsWork) (batches_law : BatchesWork) (outcomes_law : OutcomesWork) where
    after_call : (init : Document) (face : FaceValue) (s t : State) → IsTurning init face s → IsCore t → Called s t → IsTurning init face t
    after_call init face s t is core (accepts editor index edits v _ does) = edit_turns init face s t editor index edits v is core does
    after_call init face s t is core (rests _ quiet) = quiet_turns init face s t is core quiet

    reached_turns : (init : Document) (face : FaceValue) (s : State) → IsReached init face s → IsTurning init face s
    reached_turns init face s (new calls _ is core) = new_turns init face calls s is core
    reached_turns init face s (called before _ reached call core) =
        after_call init face before s (reached_turns init face before reached) core (what_called claims_law next_law batches_law outcomes_law before s call)

    pub turns_are_of_versions_lem : TurnsAreOfVersions
    turns_are_of_versions_lem init face s r reached there = (reached_turns init face s reached).turning r there

pub turns_are_changes_lem : TurnsAreOfVersions → TurnsAreFew → TurnsAreChanges
turns_are_changes_lem versions few init face s r flags reached there are = by r.given refl
  where
    turned : HasTurned init face s.history r.key r.given r.turns
    turned = versions init face s r reached there

    by : (given : Option CellInput) → r.given ≡ given → r.turns ≤ changes flags
    by None e = let z = turned.none e in omega (arith, z)
    by (Some input) e = let to = turned.some input e in few init face s.history r.key r.turns to.version input flags to.turned are

pub turns_are_within_lem : TurnsAreOfVersions → TurnsAreWithin
turns_are_within_lem versions init face s r reached there = by r.given refl
  where
    turned : HasTurned init face s.history r.key r.given r.turns
    turned = versions init face s r reached there

    by : (given : Option CellInput) → r.given ≡ given → r.turns ≤ accepted s.history
    by None e = let z = turned.none e in omega (arith, z)
    by (Some input) e =
        let to = turned.some input e in
        let few = turns_below init face s.history r.key r.turns to.version input to.turned in
        let within = to.within in
        omega (arith, few, within)

reached_core : (init : Document) (face : FaceValue) (s : State) → IsReached init face s → IsCore s
reached_core init face s (new calls _ is core) = core
reached_core init face s (called before _ reached call core) = core

pub grants_are_within_lem : TurnsAreWithin → GrantsAreWithin
grants_are_within_lem few init face s r reached there =
    let most = ((reached_core init face s reached).sound.cells.cells.sound.each r there).counted.most in
    let turns = few init face s r reached there in
    omega (arith, most, turns)

pub grants_are_paid_by_changes_lem : TurnsAreChanges → GrantsArePaidByChanges
grants_are_paid_by_changes_lem few init face s r flags reached there are =
    let most = ((reached_core init face s reached).sound.cells.cells.sound.each r there).counted.most in
    let turns = few init face s r flags reached there are in
    omega (arith, most, turns)

module _ (claims_law : ClaimsWork) (next_law : NextClaimsWork) (batches_law : BatchesWork) (outcomes_law : OutcomesWork) where
  call_stays : (s t : State) → Called s t → (t.init ≡ s.init) × (t.face ≡ s.face)
  call_stays s t (accepts editor index edits v _ does) = (ap (λ (x : State). x.init) does.2.state, ap (λ (x : State). x.face) does.2.state)
  call_stays s t (rests _ quiet) = (quiet.stays.init, quiet.stays.face)

  pub origins_stay_lem : OriginsStay
  origins_stay_lem init face s (new calls _ is core) = (ap (λ (x : State). x.init) is.state, ap (λ (x : State). x.face) is.state)
  origins_stay_lem init face s (called before _ reached call core) =
      let was = origins_stay_lem init face before reached in
      let now = call_stays before s (what_called claims_law next_law batches_law outcomes_law before s call) in
      (now.0 ∙ was.0, now.1 ∙ was.1)
