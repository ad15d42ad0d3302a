-- Claims, work that comes back, and claims that are given back keep the cells of a document.
use Rattle.std.proofs.Common.{◌≡◌, ⊎_elim, inl, inr, ◌<◌, ◌+◌, ℕ, Bool, true, false, List, length, slice_get, slice_set, Option, None, Some, IsNone, option_map, ap, sym, subst, ◌∙◌}
use Rattle.std.proofs.lemmas.Bool.{false≢true, cases_Bool}
use Rattle.lay_doc.specs.Document.{Document}
use Rattle.lay_face.specs.FaceValue.{FaceValue}
use Rattle.lay_cells.specs.Rows.{Solved, entry_of}
use Rattle.lay_cells.specs.Sound.{IsSound}
use Rattle.lay_cells.specs.Steps.{Claims, Finishes, GivesBack, IsStale, draws_after}
use Rattle.lay_cells.specs.declared.answers.Claimed.{Claimed}
use Rattle.lay_cells.specs.declared.answers.Claimed.TheVariants.{Granted, Reused, Taken}
use Rattle.lay_cells.specs.declared.answers.Finished.{Finished}
use Rattle.lay_cells.specs.declared.answers.Finished.TheVariants as finished
use Rattle.lay_cells.specs.declared.answers.Released.{Released}
use Rattle.lay_cells.specs.declared.answers.Released.TheVariants as released
use Rattle.lay_cells.specs.declared.cell.Open.{Open}
use Rattle.lay_contexts.specs.Contexts.{Context}
use Rattle.lay_contexts.specs.FormattingContexts.{FormattingContext}
use Rattle.lay_context.specs.declared.task.Phase.{Phase}
use Rattle.lay_context.specs.Solves.{medium_of}
use Rattle.lay_shape.specs.declared.cell_key.CellKey.{CellKey}
use Rattle.lay_cell_work.specs.CellInputs.{CellInput}
use Rattle.lay_cell_work.specs.CellLocal.{IsCellLocal}
use Rattle.lay_cell_work.specs.CellValues.{CellValue}
use Rattle.lay_cell_work.specs.PresentInputs.{key_of}
use Rattle.lay_cell_work.specs.CellLaws.DocumentCells.{AreDocumentCells}
use Rattle.lay_cell_work.specs.CellLaws.SoundCells.{CellRow, CellState, IsCellOf, input_now}
use Rattle.lay_cell_work.specs.CellLaws.KeptInputs.{InputsAreKept}
use Rattle.lay_kept_cells.specs.Steps.CellSteps.{ClaimsKeepCells, FinishesKeepCells, GiveBacksKeepCells}
use Rattle.lay_kept_cells.proofs.StepsLemmas.ChangedRow.{IsPresent, apart, changed}
use Rattle.lay_kept_cells.proofs.StepsLemmas.RowsOfContexts.{same_context, same_phase}

-- no claim is open, so none is fresh
none_fresh : (o : Option Open) (b : Bool) → o ≡ None → option_map (λ (c : Open). c.stale) o ≡ Some b → ⊥
none_fresh None b is e = absurd cc
none_fresh (Some c) b is e = absurd cc

some_open : (o : Option Open) (b : Bool) → IsNone o → option_map (λ (c : Open). c.stale) o ≡ Some b → ⊥
some_open None b none e = absurd cc
some_open (Some c) b none e = absurd cc

module _ (kept : InputsAreKept) (d : Document) (face : FaceValue) (contexts : List Context) (all : List FormattingContext) (s : CellState) (cells : AreDocumentCells d face contexts all s) where
  abbrev Now : ℕ → Phase → CellInput
  Now c p = input_now (medium_of d face) contexts all s.rows c p

  -- an input that is present for one number of a cell is so for each
  moved : (c e : ℕ) (p q : Phase) (r : CellRow) → c < length contexts → e < length contexts → r.key ≡ key_of contexts c p → IsCellOf s.rows contexts e q r → Now c p ≡ Now e q
  moved c e p q r in_c in_e key of =
      let keys : key_of contexts c p ≡ key_of contexts e q = sym key ∙ of.key in
      ap (λ (n : ℕ). Now n p) (same_context contexts (apart d face contexts all s cells) c e p q in_c in_e keys) ∙ ap (Now e) (same_phase contexts c e p q keys)

  module _ (i : ℕ) (r q : CellRow) (at : slice_get s.rows i ≡ Some r) where
    abbrev Present : entry_of q ≡ entry_of r → Type 0
    Present same = IsPresent kept d face contexts all s cells i r q at same

    -- nothing changes but what is said of no clean cell
    same_row : (same : entry_of q ≡ entry_of r) → q.kept ≡ r.kept → q.dirty ≡ r.dirty → (IsStale q false → IsStale r false × (q.given ≡ r.given)) → Present same
    same_row same kept_same dirty opened = record {
      calm = inl kept_same;
      clean = λ c p lt of clean.
          ap (option_map (λ (x : Solved CellKey CellInput CellValue). x.input)) kept_same ∙ cells.cells.present c p r lt of (sym dirty ∙ clean);
      opened = λ c p lt of fresh. (let o = opened fresh in o.1 ∙ cells.cells.open_present c p r lt of o.0);
    }

    unchanged : (e : q ≡ r) → Present (ap entry_of e)
    unchanged e = same_row (ap entry_of e) (ap (λ (z : CellRow). z.kept) e) (ap (λ (z : CellRow). z.dirty) e)
        (λ fresh. (subst (λ (z : CellRow). IsStale z false) e fresh, ap (λ (z : CellRow). z.given) e))

    claimed : (c : ℕ) (p : Phase) → c < length contexts → r.key ≡ key_of contexts c p → (number : ℕ) (answer : Claimed) → Claims r number (Now c p) answer q
        → (same : entry_of q ≡ entry_of r) × Present same
    claimed c p lt key number (Taken n) h =
        let e = h.2 in (
          ap entry_of e,
          record {
            calm = inl (ap (λ (z : CellRow). z.kept) e);
            clean = λ x y in_x of clean.
                ap (λ (z : CellRow). option_map (λ (v : Solved CellKey CellInput CellValue). v.input) z.kept) e ∙ cells.cells.present x y r in_x of (sym (ap (λ (z : CellRow). z.dirty) e) ∙ clean);
            opened = λ x y in_x of fresh. ap (λ (z : CellRow). z.given) e ∙ h.0.1 ∙ ap Some (moved c x p y r lt in_x key of);
          },
        )
    claimed c p lt key number Reused h =
        let e = h.3 in (
          ap entry_of e,
          record {
            calm = inl (ap (λ (z : CellRow). z.kept) e);
            clean = λ x y in_x of clean.
                ap (λ (z : CellRow). option_map (λ (v : Solved CellKey CellInput CellValue). v.input) z.kept) e ∙ h.1 ∙ ap Some (moved c x p y r lt in_x key of);
            opened = λ x y in_x of fresh. absurd (none_fresh q.claim false (ap (λ (z : CellRow). z.claim) e) fresh);
          },
        )
    claimed c p lt key number (Granted n) h =
        let e = h.4 in (
          ap entry_of e,
          record {
            calm = inl (ap (λ (z : CellRow). z.kept) e);
            clean = λ x y in_x of clean.
                ap (λ (z : CellRow). option_map (λ (v : Solved CellKey CellInput CellValue). v.input) z.kept) e ∙ cells.cells.present x y r in_x of (sym (ap (λ (z : CellRow). z.dirty) e) ∙ clean);
            opened = λ x y in_x of fresh. ap (λ (z : CellRow). z.given) e ∙ ap Some (moved c x p y r lt in_x key of);
          },
        )

    -- a cell with an open claim is dirty
    open_dirty : (b : Bool) → IsStale r b → r.dirty ≡ true
    open_dirty b is =
        ⊎_elim (λ (e : r.dirty ≡ true). e) (λ (e : r.dirty ≡ false). absurd (some_open r.claim b ((cells.cells.sound.each r (i, at)).closed e) is)) (cases_Bool r.dirty)

    finished_row : (done : Solved CellKey CellInput CellValue) (answer : Finished) → Finishes r done answer q → (same : entry_of q ≡ entry_of r) × Present same
    finished_row done finished.Gone h = (ap entry_of h.1, unchanged h.1)
    finished_row done (finished.Superseded n) h = (ap entry_of h.3, unchanged h.3)
    finished_row done finished.Stored h =
        let e = h.3 in
        let dirty = open_dirty true h.2 in
        let still : q.dirty ≡ true = ap (λ (z : CellRow). z.dirty) e ∙ dirty in
        let closed : q.claim ≡ None = ap (λ (z : CellRow). z.claim) e in (
          ap entry_of e,
          record {
            calm = inr (dirty, λ clean. absurd (false≢true (sym clean ∙ still)), λ fresh. absurd (none_fresh q.claim false closed fresh));
            clean = λ x y in_x of clean. absurd (false≢true (sym clean ∙ still));
            opened = λ x y in_x of fresh. absurd (none_fresh q.claim false closed fresh);
          },
        )
    finished_row done finished.Cleaned h =
        let e = h.3 in
        let closed : q.claim ≡ None = ap (λ (z : CellRow). z.claim) e in (
          ap entry_of e,
          record {
            calm = inr (open_dirty false h.2, λ clean. (cells.cells.sound.each r (i, at)).fresh h.2, λ fresh. absurd (none_fresh q.claim false closed fresh));
            clean = λ x y in_x of clean.
                ap (λ (z : CellRow). option_map (λ (v : Solved CellKey CellInput CellValue). v.input) z.kept) e ∙ sym h.1.1 ∙ cells.cells.open_present x y r in_x of h.2;
            opened = λ x y in_x of fresh. absurd (none_fresh q.claim false closed fresh);
          },
        )

    given_back : (number : ℕ) (answer : Released) → GivesBack r number answer q → (same : entry_of q ≡ entry_of r) × Present same
    given_back number released.Gone h = (ap entry_of h.1, unchanged h.1)
    given_back number (released.Superseded n) h = (ap entry_of h.3, unchanged h.3)
    given_back number released.Released h =
        let e = h.2 in (
          ap entry_of e,
          same_row (ap entry_of e) (ap (λ (z : CellRow). z.kept) e) (ap (λ (z : CellRow). z.dirty) e)
              (λ fresh. absurd (none_fresh q.claim false (ap (λ (z : CellRow). z.claim) e) fresh)),
        )

  -- the cells after such a change
  after_change : (t : CellState) (i : ℕ) (r q : CellRow) (draws : ℕ) (at : slice_get s.rows i ≡ Some r) → t ≡ record { rows = slice_set s.rows i q; draws = draws } → IsSound IsCellLocal t
      → ((same : entry_of q ≡ entry_of r) × IsPresent kept d face contexts all s cells i r q at same) → AreDocumentCells d face contexts all t
  after_change t i r q draws at e sound present =
      subst (AreDocumentCells d face contexts all) (sym e)
      (changed kept d face contexts all s cells i r q at present.0 present.1 draws (subst (IsSound IsCellLocal) e sound))

pub claims_keep_cells_lem : InputsAreKept → ClaimsKeepCells
claims_keep_cells_lem kept d face contexts all s t c phase answer cells lt claims sound =
    after_change kept d face contexts all s cells t claims.0 claims.1 claims.2 (draws_after answer s.draws) claims.3.0 claims.5 sound
    (claimed kept d face contexts all s cells claims.0 claims.1 claims.2 claims.3.0 c phase lt claims.3.1 (s.draws + 1) answer claims.4)

pub finishes_keep_cells_lem : InputsAreKept → FinishesKeepCells
finishes_keep_cells_lem kept d face contexts all s t done answer cells (inl gone) sound = subst (AreDocumentCells d face contexts all) (sym gone.2) cells
finishes_keep_cells_lem kept d face contexts all s t done answer cells (inr h) sound =
    after_change kept d face contexts all s cells t h.0 h.1 h.2 s.draws h.3.0 h.5 sound
    (finished_row kept d face contexts all s cells h.0 h.1 h.2 h.3.0 done answer h.4)

pub give_backs_keep_cells_lem : InputsAreKept → GiveBacksKeepCells
give_backs_keep_cells_lem kept d face contexts all s t key number answer cells (inl gone) sound = subst (AreDocumentCells d face contexts all) (sym gone.2) cells
give_backs_keep_cells_lem kept d face contexts all s t key number answer cells (inr h) sound =
    after_change kept d face contexts all s cells t h.0 h.1 h.2 s.draws h.3.0 h.5 sound
    (given_back kept d face contexts all s cells h.0 h.1 h.2 h.3.0 number answer h.4)
