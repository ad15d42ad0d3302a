-- Steps of a core that is seen by its parts.
use Rattle.std.proofs.Common.{◌≡◌, ◌≢◌, ◌<◌, ◌≤◌, ◌*◌, ◌+◌, ◌^◌, ℕ, List, length, true, false, Option, Some, None, Result, Ok, Err, OnErr, OnOk, refl, sym, ap, ◌∙◌, ◌⊎◌, subst, arith, inl, inr, ne_eqb}
use Rattle.lay_history.specs.declared.edits.command.Reply.{Reply}
use Rattle.lay_history.specs.declared.edits.history.Entry.{Entry}
use Rattle.lay_history.specs.declared.edits.history.Entry.TheVariants.{Latest, Sync}
use Rattle.lay_cells.specs.Reads.{AllClean}
use Rattle.lay_history.specs.Histories.{accepted, last_or, last_published}
use Rattle.lay_history.specs.Trees.{PublishedTreeValue, versions_of}
use Rattle.lay_document_cells.specs.Settling.{CellsSettleTo, CellsStopAt, none}
use Rattle.lay_document_cells.specs.State.{IsOfDocument, State as DocumentCells}
use Rattle.lay_core.specs.CoreLaws.ReachedCores.{CallsTo, publish, refresh, settle}
use Rattle.lay_core.specs.Parts.{parts}
use Rattle.lay_core.specs.Publishing.{IsBehind, Publishes, PublishesTo, RefreshesTo, is_version}
use Rattle.lay_core.specs.State.{HasNumbers, IsKept, State, are_clean, document_cells, with_cells}
use Rattle.lay_core.specs.Steps.{LatestTo, ShowsLatest, ShowsPresent, SyncTo, called, is_due}
use Rattle.lay_core.specs.Work.{ChangesCells, MaySettle, SettlesTo}
use Rattle.lay_core.specs.declared.answers.Publish.{Publish}
use Rattle.lay_core.specs.declared.answers.Publish.TheVariants.{Published, NoMemory}
use Rattle.lay_core.proofs.CleanCells.{told_clean}
use Rattle.lay_core.proofs.CellWork.{IsWork, settle_work, stop_work}
use Rattle.lay_core.proofs.Kept.{not_last}
use Rattle.lay_core.proofs.ShownKept.{changes, latest_room, may_settle_keeps, publish_keeps, refresh_keeps, shown_keeps, sync_keeps, sync_room}

-- what comes of an outcome
pub on_ok : {X E : Type 0} (r : Result X E) (A B : Type 0) → (A → B) → OnOk r A → OnOk r B
on_ok (Ok x) A B f a = f a
on_ok (Err e) A B f a = tt

pub on_err : {X E : Type 0} (r : Result X E) (A B : Type 0) → (A → B) → OnErr r A → OnErr r B
on_err (Ok x) A B f a = tt
on_err (Err e) A B f a = f a

pub on_err_both : {X E : Type 0} (r : Result X E) (A B C : Type 0) → (A → B → C) → OnErr r A → OnErr r B → OnErr r C
on_err_both (Ok x) A B C f a b = tt
on_err_both (Err e) A B C f a b = f a b

pub always_on_err : {X E : Type 0} (r : Result X E) (A : Type 0) → A → OnErr r A
always_on_err (Ok x) A a = tt
always_on_err (Err e) A a = a

-- work on the cells of a core
pub changes_of : (Does : DocumentCells → DocumentCells → Type 0) (s now : State) (d : DocumentCells) → s ≡ now
    → ((a b : DocumentCells) → Does a b → IsWork a b) → Does (document_cells s) d → ChangesCells Does now (with_cells s d)
changes_of Does s now d same works does =
    subst (λ x. ChangesCells Does x (with_cells s d)) same (changes Does s d (works (document_cells s) d does) does)

pub settling_work : {X E : Type 0} (r : Result X E) (a b : DocumentCells) → OnOk r (CellsSettleTo a b) → OnErr r (CellsStopAt a b) → IsWork a b
settling_work (Ok x) a b settles stops = settle_work a b settles
settling_work (Err e) a b settles stops = stop_work a b stops

-- where no cell is dirty, nothing is to be done
pub settled_already : (s now : State) → s ≡ now → are_clean s.cells.rows ≡ true → SettlesTo now now
settled_already s now same clean =
    subst (λ x. SettlesTo x x) same record { does = record { settles = none; clean = told_clean s.cells.rows clean }; state = refl }

pub settled_numbers : (s : State) (n room draws : ℕ) → IsKept s n room → s.cells.draws ≤ 2 ^ 63 + 2 ^ 50 → draws ≤ s.cells.draws + 2 ^ 18
    → draws + 2 ^ 20 * s.calls_left ≤ 2 ^ 63 + 2 ^ 51
settled_numbers s n room draws is few more = let c = is.is_core.few_calls in omega (arith, c, few, more)

-- settling, of parts
pub stops_parts : (d e : DocumentCells) (h : List Entry) (ts : List PublishedTreeValue) → CellsStopAt d e → (s : State) → MaySettle (parts s d h ts) (parts s e h ts)
stops_parts d e h ts does s = inr (changes CellsStopAt (parts s d h ts) e (stop_work d e does) does)

pub settles_parts : (d e : DocumentCells) (h k : List Entry) (ts us : List PublishedTreeValue) → CellsSettleTo d e → k ≡ h → us ≡ ts
    → (s : State) → MaySettle (parts s d h ts) (parts s e k us)
settles_parts d e h k ts us does same_history same_trees s =
    subst (λ x. MaySettle (parts s d h ts) (parts s e x us)) (sym same_history)
    (subst (λ x. MaySettle (parts s d h ts) (parts s e h x)) (sym same_trees) (inl (changes CellsSettleTo (parts s d h ts) e (settle_work d e does) does)))

pub refreshes_parts : (d e : DocumentCells) (h k : List Entry) (ts us : List PublishedTreeValue) → CellsSettleTo d e
    → ((s : State) → Publishes (parts s e h ts) (parts s e k us)) → (s : State) → RefreshesTo (parts s d h ts) (parts s e k us)
refreshes_parts d e h k ts us does publishes s = record {
  settled = parts s e h ts;
  settles = changes CellsSettleTo (parts s d h ts) e (settle_work d e does) does;
  publishes = publishes s;
}

-- what was refreshed, published or shown of the parts of a core is so of the core
pub refreshes_of : (s now : State) → s ≡ now → (d : DocumentCells) (h : List Entry) (ts : List PublishedTreeValue)
    → ((z : State) → RefreshesTo (parts z (document_cells s) s.history s.trees) (parts z d h ts)) → RefreshesTo now (parts s d h ts)
refreshes_of s now same d h ts does = subst (λ x. RefreshesTo x (parts s d h ts)) same (does s)

pub may_settle_of : (s now : State) → s ≡ now → (d : DocumentCells) (h : List Entry) (ts : List PublishedTreeValue)
    → ((z : State) → MaySettle (parts z (document_cells s) s.history s.trees) (parts z d h ts)) → MaySettle now (parts s d h ts)
may_settle_of s now same d h ts does = subst (λ x. MaySettle x (parts s d h ts)) same (does s)

pub refresh_leaves : {X E : Type 0} (r : Result X E) (s : State) (n room : ℕ) → IsKept s n room → (d : DocumentCells) (h : List Entry) (ts : List PublishedTreeValue)
    → OnOk r ((z : State) → RefreshesTo (parts z (document_cells s) s.history s.trees) (parts z d h ts))
    → OnErr r ((z : State) → MaySettle (parts z (document_cells s) s.history s.trees) (parts z d h ts)) → IsOfDocument d → IsKept (parts s d h ts) n room
refresh_leaves (Ok x) s n room is d h ts ok err sound = refresh_keeps s (parts s d h ts) n room (ok s) sound is
refresh_leaves (Err e) s n room is d h ts ok err sound = may_settle_keeps s (parts s d h ts) n room (err s) sound is

with_parts : (s : State) (n room : ℕ) (h : List Entry) (ts : List PublishedTreeValue) → h ≡ s.history → ts ≡ s.trees → IsKept s n room
    → IsKept (parts s (document_cells s) h ts) n room
with_parts s n room h ts same_history same_trees is =
    subst (λ x. IsKept (parts s (document_cells s) x ts) n room) (sym same_history)
    (subst (λ x. IsKept (parts s (document_cells s) s.history x) n room) (sym same_trees) is)

pub publish_leaves : {X E : Type 0} (r : Result X E) (s : State) (n room : ℕ) → IsKept s n room → (h : List Entry) (ts : List PublishedTreeValue)
    → OnOk r ((z : State) → Publishes (parts z (document_cells s) s.history s.trees) (parts z (document_cells s) h ts))
    → OnErr r (h ≡ s.history) → OnErr r (ts ≡ s.trees) → IsKept (parts s (document_cells s) h ts) n room
publish_leaves (Ok x) s n room is h ts ok same_history same_trees = publish_keeps s (parts s (document_cells s) h ts) n room (ok s) is
publish_leaves (Err e) s n room is h ts ok same_history same_trees = with_parts s n room h ts same_history same_trees is

other_version : (o : Option ℕ) (n : ℕ) → (o ≡ Some n → ⊥) → is_version o n ≡ false
other_version None n other = refl
other_version (Some v) n other = ne_eqb v n (λ e. other (ap (λ m. Some m) e))

publishes_by : {X E : Type 0} (r : Result X E) (s : State) (n room : ℕ) → IsKept s n room → AllClean s.cells.rows
    → (h : List Entry) (ts : List PublishedTreeValue) (p : Publish)
    → OnOk r ((z : State) → Publishes (parts z (document_cells s) s.history s.trees) (parts z (document_cells s) h ts))
    → OnErr r (last_or None (versions_of s.trees) ≢ Some n) → OnErr r (h ≡ s.history) → OnErr r (ts ≡ s.trees)
    → OnOk r (p ≡ Published n) → OnErr r (p ≡ NoMemory) → PublishesTo s p (parts s (document_cells s) h ts)
publishes_by (Ok x) s n room is clean h ts p ok other same_history same_trees published lack =
    subst (λ q. PublishesTo s q (parts s (document_cells s) h ts)) (sym published) (clean, is.count_is, ok s)
publishes_by (Err e) s n room is clean h ts p ok other same_history same_trees published lack =
    subst (λ q. PublishesTo s q (parts s (document_cells s) h ts)) (sym lack) (
      clean,
      other_version (last_published s.history) (accepted s.history) (not_last s n room is other),
      ap (λ x. parts s (document_cells s) x ts) same_history ∙ ap (λ x. parts s (document_cells s) s.history x) same_trees,
    )

pub publishes_of : {X E : Type 0} (r : Result X E) (s now : State) (n room : ℕ) → s ≡ now → IsKept s n room → AllClean s.cells.rows
    → (h : List Entry) (ts : List PublishedTreeValue) (p : Publish)
    → OnOk r ((z : State) → Publishes (parts z (document_cells s) s.history s.trees) (parts z (document_cells s) h ts))
    → OnErr r (last_or None (versions_of s.trees) ≢ Some n) → OnErr r (h ≡ s.history) → OnErr r (ts ≡ s.trees)
    → OnOk r (p ≡ Published n) → OnErr r (p ≡ NoMemory) → PublishesTo now p (parts s (document_cells s) h ts)
publishes_of r s now n room same is clean h ts p ok other same_history same_trees published lack =
    subst (λ x. PublishesTo x p (parts s (document_cells s) h ts)) same
    (publishes_by r s n room is clean h ts p ok other same_history same_trees published lack)

-- calls on a core that is seen by its parts
pub settle_called : {X E : Type 0} (r : Result X E) (s : State) (d : DocumentCells) → OnOk r (CellsSettleTo (document_cells s) d)
    → OnErr r (CellsStopAt (document_cells s) d) → CallsTo s (with_cells s d)
settle_called (Ok x) s d ok err = settle _ (inl (changes CellsSettleTo s d (settle_work (document_cells s) d ok) ok))
settle_called (Err e) s d ok err = settle _ (inr (changes CellsStopAt s d (stop_work (document_cells s) d err) err))

pub refresh_called : {X E : Type 0} (r : Result X E) (s : State) (d : DocumentCells) (h : List Entry) (ts : List PublishedTreeValue)
    → OnOk r ((z : State) → RefreshesTo (parts z (document_cells s) s.history s.trees) (parts z d h ts))
    → OnErr r ((z : State) → MaySettle (parts z (document_cells s) s.history s.trees) (parts z d h ts)) → CallsTo s (parts s d h ts)
refresh_called (Ok x) s d h ts ok err = refresh _ (ok s)
refresh_called (Err e) s d h ts ok err = settle _ (err s)

pub publish_called : {X E : Type 0} (r : Result X E) (s : State) (n room : ℕ) → IsKept s n room → AllClean s.cells.rows
    → (h : List Entry) (ts : List PublishedTreeValue)
    → OnOk r ((z : State) → Publishes (parts z (document_cells s) s.history s.trees) (parts z (document_cells s) h ts))
    → OnErr r (last_or None (versions_of s.trees) ≢ Some n) → OnErr r (h ≡ s.history) → OnErr r (ts ≡ s.trees)
    → CallsTo s (parts s (document_cells s) h ts)
publish_called {X} {E} (Ok x) s n room is clean h ts ok other same_history same_trees =
    publish (Published n) _ (publishes_by {X = X} {E = E} (Ok x) s n room is clean h ts (Published n) ok other same_history same_trees refl tt)
publish_called {X} {E} (Err e) s n room is clean h ts ok other same_history same_trees =
    publish NoMemory _ (publishes_by {X = X} {E = E} (Err e) s n room is clean h ts NoMemory ok other same_history same_trees tt refl)

-- `Sync`
abbrev pub ShowsParts : State → DocumentCells → List Entry → List PublishedTreeValue → Reply → Type 0
ShowsParts s d h ts r = (z : State) → ShowsPresent (parts z (document_cells s) s.history s.trees) r (parts z d h ts)

pub sync_room_of : (s : State) (n room : ℕ) → IsKept s n room → 0 < s.calls_left → (d : DocumentCells) (h : List Entry) (ts : List PublishedTreeValue) (r : Reply)
    → ShowsParts s d h ts r → IsOfDocument d → (len : ℕ) → len ≡ length h → len < room
sync_room_of s n room is some d h ts r shows sound len len_is = sync_room s (parts s d h ts) r n room (shows s) sound some is len len_is

pub sync_leaves : (s : State) (n room : ℕ) → IsKept s n room → HasNumbers s → 0 < s.calls_left → (editor index : ℕ)
    → (d : DocumentCells) (h : List Entry) (ts : List PublishedTreeValue) (r : Reply)
    → ShowsParts s d h ts r → d.cells.draws ≤ s.cells.draws + 2 ^ 18 → IsOfDocument d
    → IsKept (called (parts s d h ts) (Sync editor index r)) n room × HasNumbers (called (parts s d h ts) (Sync editor index r))
sync_leaves s n room is has some editor index d h ts r shows few sound = sync_keeps s (parts s d h ts) editor index r n room (shows s) sound some few is has

pub syncs_of : (s now : State) → s ≡ now → (editor index : ℕ) (d : DocumentCells) (h : List Entry) (ts : List PublishedTreeValue) (r : Reply)
    → ShowsParts s d h ts r → SyncTo now editor index r (called (parts s d h ts) (Sync editor index r))
syncs_of s now same editor index d h ts r shows = record {
  before = parts s d h ts;
  shows = subst (λ x. ShowsPresent x r (parts s d h ts)) same (shows s);
  state = refl;
}

-- `Latest`
abbrev pub ShowsLatestParts : State → DocumentCells → List Entry → List PublishedTreeValue → Reply → Type 0
ShowsLatestParts s d h ts r = (z : State) → ShowsLatest (is_due (parts z (document_cells s) s.history s.trees))
    (parts z (document_cells s) s.history s.trees) r (parts z d h ts)

pub latest_room_of : (s : State) (n room : ℕ) → IsKept s n room → 0 < s.calls_left → (d : DocumentCells) (h : List Entry) (ts : List PublishedTreeValue) (r : Reply)
    → ShowsLatestParts s d h ts r → IsOfDocument d → (len : ℕ) → len ≡ length h → len < room
latest_room_of s n room is some d h ts r shows sound len len_is = latest_room s (parts s d h ts) r n room (shows s) sound some is len len_is

pub latest_leaves : (s : State) (n room : ℕ) → IsKept s n room → HasNumbers s → 0 < s.calls_left → (editor index : ℕ)
    → (d : DocumentCells) (h : List Entry) (ts : List PublishedTreeValue) (r : Reply)
    → ShowsLatestParts s d h ts r → d.cells.draws ≤ s.cells.draws + 2 ^ 18 → IsOfDocument d
    → IsKept (called (parts s d h ts) (Latest editor index r)) n room × HasNumbers (called (parts s d h ts) (Latest editor index r))
latest_leaves s n room is has some editor index d h ts r shows few sound = shown_keeps s (parts s d h ts) editor index r n room (shows s) sound some few is has

pub shows_latest_of : (s now : State) → s ≡ now → (editor index : ℕ) (d : DocumentCells) (h : List Entry) (ts : List PublishedTreeValue) (r : Reply)
    → ShowsLatestParts s d h ts r → LatestTo now editor index r (called (parts s d h ts) (Latest editor index r))
shows_latest_of s now same editor index d h ts r shows = record {
  before = parts s d h ts;
  shows = subst (λ x. ShowsLatest (is_due x) x r (parts s d h ts)) same (shows s);
  state = refl;
}

-- what is behind by its trees is so by its history
pub behind_of : (s now : State) (n room : ℕ) → s ≡ now → IsKept s n room → (are_clean s.cells.rows ≡ false) ⊎ (last_or None (versions_of s.trees) ≢ Some n) → IsBehind now
behind_of s now n room same is (inl dirty) = subst IsBehind same (inl dirty)
behind_of s now n room same is (inr other) = subst IsBehind same (inr (not_last s n room is other))
