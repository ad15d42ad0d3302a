-- What a core keeps where its cells are worked on, and where a version is published and shown.
use Rattle.std.proofs.Common.{◌≡◌, ◌<◌, ◌≤◌, ℕ, ◌+◌, ◌^◌, Bool, true, false, length, Option, Some, refl, sym, ap, ◌∙◌, subst, arith, inl, inr, rules, eq-eqb}
use Rattle.lay_history.specs.declared.edits.command.Reply.{Reply}
use Rattle.lay_history.specs.declared.edits.command.Reply.TheVariants.{Accepted, Refused, Shown, NoMemory}
use Rattle.lay_history.specs.declared.edits.history.Entry.{Entry}
use Rattle.lay_history.specs.declared.edits.history.Entry.TheVariants.{Latest, Sync}
use Rattle.lay_document_cells.specs.State.{IsOfDocument, State as DocumentCells}
use Rattle.lay_core.specs.State.{HasNumbers, IsKept, State, document_cells, with_cells}
use Rattle.lay_core.specs.Publishing.{Publishes, PublishesUnless, RefreshesTo, is_last, is_version}
use Rattle.lay_core.specs.Steps.{ShowsLatest, ShowsPresent, called, is_due}
use Rattle.lay_core.specs.Work.{ChangesCells, MaySettle}
use Rattle.lay_core.proofs.CellWork.{IsWork, settle_work, stop_work}
use Rattle.lay_core.proofs.Kept.{call_room, read_keeps, tree_keeps, work_keeps}
use Rattle.lay_core.proofs.Quiet.{IsQuiet, latest_quiet, present_quiet}
use Rattle.lay_core.proofs.Shown.{latest_follows, sync_follows}

-- the cells of a core are changed by work on them
pub change_is : (Does : DocumentCells → DocumentCells → Type 0) (s t : State) → ChangesCells Does s t → t ≡ with_cells s (document_cells t)
change_is Does s t does =
    does.state ∙ (ap (λ f. record s { face = f; cells = t.cells; laid = t.laid }) (sym (ap (λ x. x.face) does.state))
    ∙ ap (λ d. record s { face = t.face; document = d; cells = t.cells; laid = t.laid }) (sym (ap (λ x. x.document) does.state)))

change_keeps : (Does : DocumentCells → DocumentCells → Type 0) (s t : State) (n room : ℕ) → ((d e : DocumentCells) → Does d e → IsWork d e)
    → ChangesCells Does s t → IsOfDocument (document_cells t) → IsKept s n room → IsKept t n room
change_keeps Does s t n room works does sound is =
    subst (λ x. IsKept x n room) (sym (change_is Does s t does))
    (work_keeps s (document_cells t) n room is (works (document_cells s) (document_cells t) does.does) sound)

-- and so it does something on them
pub changes : (Does : DocumentCells → DocumentCells → Type 0) (s : State) (d : DocumentCells) → IsWork (document_cells s) d → Does (document_cells s) d
    → ChangesCells Does s (with_cells s d)
changes Does s d work does = record {
  does = does;
  state = ap (λ f. record s { face = f; document = d.document; cells = d.cells; laid = d.laid }) work.face
      ∙ ap (λ x. record s { document = x; cells = d.cells; laid = d.laid }) work.document;
}

last_tells : (o : Option ℕ) (n : ℕ) → o ≡ Some n → is_version o n ≡ true
last_tells o n e = ap (λ x. is_version x n) e ∙ eq-eqb n n refl

publish_by : (b : Bool) (s t : State) (n room : ℕ) → is_last s ≡ b → PublishesUnless b s t → IsKept s n room → IsKept t n room
publish_by true s t n room e does is = subst (λ x. IsKept x n room) (sym does) is
publish_by false s t n room e does is =
    subst (λ x. IsKept x n room) (sym does.state) (tree_keeps s does.tree n room is does.solves does.counted (λ l. not_both (sym e ∙ last_tells _ _ l)))
  where
    not_both : false ≡ true → ⊥
    not_both f = absurd (search rules)

pub publish_keeps : (s t : State) (n room : ℕ) → Publishes s t → IsKept s n room → IsKept t n room
publish_keeps s t n room does is = publish_by (is_last s) s t n room refl does is

cells_by : (b : Bool) (s t : State) → PublishesUnless b s t → document_cells t ≡ document_cells s
cells_by true s t does = ap document_cells does
cells_by false s t does = ap document_cells does.state

-- to publish leaves the cells
pub published_cells : (s t : State) → Publishes s t → document_cells t ≡ document_cells s
published_cells s t does = cells_by (is_last s) s t does

pub refresh_keeps : (s t : State) (n room : ℕ) → RefreshesTo s t → IsOfDocument (document_cells t) → IsKept s n room → IsKept t n room
refresh_keeps s t n room does sound is =
    publish_keeps does.settled t n room does.publishes
    (change_keeps _ s does.settled n room settle_work does.settles (subst (λ d. IsOfDocument d) (published_cells does.settled t does.publishes) sound) is)

pub may_settle_keeps : (s t : State) (n room : ℕ) → MaySettle s t → IsOfDocument (document_cells t) → IsKept s n room → IsKept t n room
may_settle_keeps s t n room does sound is = elim does [
  | inl all ↦ change_keeps _ s t n room settle_work all sound is
  | inr some ↦ change_keeps _ s t n room stop_work some sound is
]

pub present_keeps : (s t : State) (r : Reply) (n room : ℕ) → ShowsPresent s r t → IsOfDocument (document_cells t) → IsKept s n room → IsKept t n room
present_keeps s t (Accepted v) n room shows sound is = absurd shows
present_keeps s t (Refused place f) n room shows sound is = absurd shows
present_keeps s t (Shown v) n room shows sound is = refresh_keeps s t n room shows.1 sound is
present_keeps s t NoMemory n room shows sound is = may_settle_keeps s t n room shows sound is

latest_by : (due : Bool) (s t : State) (r : Reply) (n room : ℕ) → ShowsLatest due s r t → IsOfDocument (document_cells t) → IsKept s n room → IsKept t n room
latest_by true s t r n room shows sound is = present_keeps s t r n room shows sound is
latest_by false s t r n room shows sound is = subst (λ x. IsKept x n room) (sym shows.1) is

pub latest_keeps : (s t : State) (r : Reply) (n room : ℕ) → ShowsLatest (is_due s) s r t → IsOfDocument (document_cells t) → IsKept s n room → IsKept t n room
latest_keeps s t r n room shows sound is = latest_by (is_due s) s t r n room shows sound is

-- the entry that follows
some_left : (s t : State) → IsQuiet s t → 0 < s.calls_left → 0 < t.calls_left
some_left s t quiet some = let l = quiet.left in omega (arith, l, some)

pub numbers_after : (s t : State) (e : Entry) → IsQuiet s t → 0 < s.calls_left → t.cells.draws ≤ s.cells.draws + 2 ^ 18 → HasNumbers s → HasNumbers (called t e)
numbers_after s t e quiet some few has = let l = quiet.left in omega (arith, l, some, few, has)

-- has room
pub sync_room : (s t : State) (r : Reply) (n room : ℕ) → ShowsPresent s r t → IsOfDocument (document_cells t) → 0 < s.calls_left → IsKept s n room
    → (len : ℕ) → len ≡ length t.history → len < room
sync_room s t r n room shows sound some is len len_is =
    call_room t n room (present_keeps s t r n room shows sound is) (some_left s t (present_quiet s t r shows) some) len len_is

pub latest_room : (s t : State) (r : Reply) (n room : ℕ) → ShowsLatest (is_due s) s r t → IsOfDocument (document_cells t) → 0 < s.calls_left → IsKept s n room
    → (len : ℕ) → len ≡ length t.history → len < room
latest_room s t r n room shows sound some is len len_is =
    call_room t n room (latest_keeps s t r n room shows sound is) (some_left s t (latest_quiet (is_due s) s t r shows) some) len len_is

pub sync_keeps : (s t : State) (editor index : ℕ) (r : Reply) (n room : ℕ) → ShowsPresent s r t → IsOfDocument (document_cells t) → 0 < s.calls_left
    → t.cells.draws ≤ s.cells.draws + 2 ^ 18 → IsKept s n room → HasNumbers s
    → IsKept (called t (Sync editor index r)) n room × HasNumbers (called t (Sync editor index r))
sync_keeps s t editor index r n room shows sound some few is has = (
  read_keeps t (Sync editor index r) n room (present_keeps s t r n room shows sound is) (some_left s t (present_quiet s t r shows) some) tt (sync_follows s t r shows),
  numbers_after s t (Sync editor index r) (present_quiet s t r shows) some few has,
)

pub shown_keeps : (s t : State) (editor index : ℕ) (r : Reply) (n room : ℕ) → ShowsLatest (is_due s) s r t → IsOfDocument (document_cells t) → 0 < s.calls_left
    → t.cells.draws ≤ s.cells.draws + 2 ^ 18 → IsKept s n room → HasNumbers s
    → IsKept (called t (Latest editor index r)) n room × HasNumbers (called t (Latest editor index r))
shown_keeps s t editor index r n room shows sound some few is has = (
  read_keeps t (Latest editor index r) n room (latest_keeps s t r n room shows sound is) (some_left s t (latest_quiet (is_due s) s t r shows) some) tt (latest_follows s t r shows),
  numbers_after s t (Latest editor index r) (latest_quiet (is_due s) s t r shows) some few has,
)
