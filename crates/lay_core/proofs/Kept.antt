-- What a core keeps after each kind of step.
use Rattle.std.proofs.Common.{◌≡◌, ◌<◌, ◌≤◌, ◌*◌, ℕ, ◌+◌, ◌-◌, ◌^◌, zero, suc, List, [], ◌∷◌, ◌++◌, length, Some, None, fold, refl, sym, ap, ◌∙◌, subst, arith, append-nil, length-append, All, slice_index_or}
use Rattle.std.proofs.lemmas.List.Elements.{All-push}
use Rattle.std.proofs.lemmas.Option.{none-some}
use Rattle.lay_doc.specs.declared.edit.Edit.{Edit as Change}
use Rattle.lay_doc.specs.Document.{Document}
use Rattle.lay_history.specs.Edits.EditLists.{after_all, fault_at, first}
use Rattle.lay_history.specs.declared.edits.command.Reply.{Reply}
use Rattle.lay_history.specs.declared.edits.command.Reply.TheVariants.{Accepted, Refused, Shown, NoMemory}
use Rattle.lay_history.specs.declared.edits.history.Entry.{Entry}
use Rattle.lay_history.specs.declared.edits.history.Entry.TheVariants.{Edit, Publish, Latest, Sync}
use Rattle.lay_frag.specs.Pieces.{Context}
use Rattle.lay_history.specs.Histories.{accepted, doc_at, list_in, lists, last_or, last_published, published, version_in}
use Rattle.lay_history.specs.Legal.{MayFollow}
use Rattle.lay_history.specs.Calls.{call_in, calls}
use Rattle.lay_history.specs.Trees.{PublishedTreeValue, versions_of}
use Rattle.lay_core.proofs.Cited.{accepted_more, all_below, call_count_more, doc_after_more, doc_before, entries_are, few_versions, legal_more, none_greater, published_more}
use Rattle.lay_context.specs.Solves.{Solves}
use Rattle.lay_document_cells.specs.State.{IsOfDocument, State as DocumentCells}
use Rattle.lay_core.specs.Changes.{ChangesTo}
use Rattle.lay_core.specs.State.{AreSolved, HasNumbers, IsCore, IsCounted, IsKept, State, document_cells, with_cells}
use Rattle.lay_core.specs.Publishing.{with_tree}
use Rattle.lay_core.specs.Steps.{EditsTo, IsReadEntry, called}
use Rattle.lay_core.proofs.CellWork.{IsWork, no_work}

version_at : (trees : List PublishedTreeValue) (k : ℕ) (d : PublishedTreeValue) → slice_index_or (versions_of trees) k d.version ≡ (slice_index_or trees k d).version
version_at [] k d = refl
version_at (t ∷ trees) zero d = refl
version_at (t ∷ trees) (suc k) d = version_at trees k d

version_count : (trees : List PublishedTreeValue) → length (versions_of trees) ≡ length trees
version_count [] = refl
version_count (t ∷ trees) = ap suc (version_count trees)

-- no tree is of a version that isn't there yet
past_of : (s : State) → IsCore s → All (λ t. t.version ≤ accepted s.history) s.trees
past_of s is k d lt =
    subst (λ v. v ≤ accepted s.history) (version_at s.trees k d)
    (subst (λ vs. All (λ v. v ≤ accepted s.history) vs) (sym is.has_trees) (none_greater s.init s.history is.legal) k d.version
    (let n = version_count s.trees in omega (arith, lt, n)))

solved_more : (s : State) (e : Entry) → IsCore s → AreSolved s.init s.face (s.history ++ e ∷ []) s.trees
solved_more s e is k d lt =
    subst (λ x. Solves x s.face (slice_index_or s.trees k d).tree) (sym (doc_before s.init s.history e (slice_index_or s.trees k d).version (past_of s is k d lt))) (is.solved k d lt)

counted_more : (n m : ℕ) (trees : List PublishedTreeValue) → n ≤ m → All (λ t. IsCounted n t.tree) trees → All (λ t. IsCounted m t.tree) trees
counted_more n m trees le all k d lt = let c = all k d lt in omega (arith, le, c)

-- the entry of a call, with the document and its cells as they are afterwards
call_keeps : (s : State) (e : Entry) (d : DocumentCells) → IsCore s → 0 < s.calls_left
    → version_in e ≡ [] → length (call_in e) ≡ 1 → MayFollow s.init s.history e
    → d.document ≡ fold after_all s.document (list_in e) → d.face ≡ s.face → s.laid ≤ d.laid → IsOfDocument d
    → IsCore (with_cells (called s e) d)
call_keeps s e d is some none one follows d_is face_is laid_is sound = record {
  document_is = d_is ∙ (ap (λ y. fold after_all y (list_in e)) is.document_is ∙ sym (doc_after_more s.init s.history e));
  legal = legal_more s.init s.history e is.legal follows;
  has_trees = is.has_trees ∙ sym (published_more s.history e ∙ (ap (λ v. published s.history ++ v) none ∙ append-nil (published s.history)));
  solved = subst (λ f. AreSolved s.init f (s.history ++ e ∷ []) s.trees) (sym face_is) (solved_more s e is);
  sound = sound;
  counted = counted_more s.laid d.laid s.trees laid_is is.counted;
  few_calls = let f = is.few_calls in let m = call_count_more s.history e in omega (arith, f, m, one, some);
}

-- the room for the entries that may come
abbrev pub HasRoom : List Entry → ℕ → ℕ → Type 0
HasRoom history left room = 2 * (length (calls history) + left) + 2 ≤ room

room_more : (h : List Entry) (e : Entry) (left room : ℕ) → length (call_in e) ≡ 1 → 0 < left → HasRoom h left room → HasRoom (h ++ e ∷ []) (left - 1) room
room_more h e left room one some has = let m = call_count_more h e in omega (arith, m, one, some, has)

same_count : (h : List Entry) (e : Entry) → list_in e ≡ [] → accepted (h ++ e ∷ []) ≡ accepted h
same_count h e none = let a = accepted_more h e in let l = ap length none in omega (arith, a, l)

-- a call that leaves the document and its cells as they are
still_keeps : (s : State) (e : Entry) (d : DocumentCells) (n n' room : ℕ) → IsKept s n room → 0 < s.calls_left
    → version_in e ≡ [] → length (call_in e) ≡ 1 → list_in e ≡ [] → MayFollow s.init s.history e → d ≡ document_cells s → n' ≡ n
    → IsKept (with_cells (called s e) d) n' room
still_keeps s e d n n' room is some none one no_edit follows same n_is = record {
  is_core = call_keeps s e d is.is_core some none one follows (ap (λ x. x.document) same ∙ ap (λ es. fold after_all s.document es) (sym no_edit))
      (no_work (document_cells s) d same).face (no_work (document_cells s) d same).laid (subst (λ x. IsOfDocument x) (sym same) is.is_core.sound);
  count_is = n_is ∙ (is.count_is ∙ sym (same_count s.history e no_edit));
  has_room = room_more s.history e s.calls_left room one some is.has_room;
}

-- the entry of an edit
pub edit_keeps : (s : State) (editor index : ℕ) (edits : List Change) (r : Reply) (d : DocumentCells) (n n' room : ℕ)
    → IsKept s n room → 0 < s.calls_left → ChangesTo edits r (document_cells s, n) (d, n') → IsOfDocument d
    → IsKept (with_cells (called s (Edit editor index edits r)) d) n' room
edit_keeps s editor index edits (Accepted v) d n n' room is some does sound = record {
  is_core = call_keeps s (Edit editor index edits (Accepted v)) d is.is_core some refl refl
      (subst (λ y. first y edits ≡ None) is.is_core.document_is does.0, does.1 ∙ ap (λ y. y + 1) is.count_is)
      (ap (λ x. x.document) does.2.state) (ap (λ x. x.face) does.2.state) (let e = ap (λ x. x.laid) does.2.state in omega (arith, e)) sound;
  count_is = let a = accepted_more s.history (Edit editor index edits (Accepted v)) in let b = does.3 in let c = is.count_is in omega (arith, a, b, c);
  has_room = room_more s.history (Edit editor index edits (Accepted v)) s.calls_left room refl some is.has_room;
}
edit_keeps s editor index edits (Refused place g) d n n' room is some does sound =
    still_keeps s (Edit editor index edits (Refused place g)) d n n' room is some refl refl refl
    (subst (λ y. first y edits ≡ Some (place, g)) is.is_core.document_is does.0) does.1 does.2
edit_keeps s editor index edits (Shown v) d n n' room is some does sound = absurd does
edit_keeps s editor index edits NoMemory d n n' room is some does sound =
    still_keeps s (Edit editor index edits NoMemory) d n n' room is some refl refl refl
    (λ one. subst (λ y. fault_at y edits 0 ≡ None) is.is_core.document_is does.0) does.1 does.2

edit_of_call : (e : Entry) → length (list_in e) ≤ length (call_in e)
edit_of_call (Edit editor index edits (Accepted v)) = omega arith
edit_of_call (Edit editor index edits (Refused place f)) = omega arith
edit_of_call (Edit editor index edits (Shown v)) = omega arith
edit_of_call (Edit editor index edits NoMemory) = omega arith
edit_of_call (Publish v) = omega arith
edit_of_call (Latest editor index r) = omega arith
edit_of_call (Sync editor index r) = omega arith

accepted_few : (h : List Entry) → accepted h ≤ length (calls h)
accepted_few [] = omega arith
accepted_few (e ∷ h) =
    let r = accepted_few h in let one = edit_of_call e in
    let a = length-append (list_in e) (lists h) in let c = length-append (call_in e) (calls h) in
    omega (arith, r, one, a, c)

pub accepted_small : (s : State) (n room : ℕ) → IsKept s n room → n < 2 ^ 64 - 1
accepted_small s n room is =
    let a = accepted_few s.history in let f = is.is_core.few_calls in let c = is.count_is in omega (arith, a, f, c)

-- a call that is to be shown a version
pub read_keeps : (s : State) (e : Entry) (n room : ℕ) → IsKept s n room → 0 < s.calls_left → IsReadEntry e → MayFollow s.init s.history e → IsKept (called s e) n room
read_keeps s (Edit editor index edits r) n room is some read follows = absurd read
read_keeps s (Publish v) n room is some read follows = absurd read
read_keeps s (Latest editor index r) n room is some read follows =
    still_keeps s (Latest editor index r) (document_cells s) n n room is some refl refl refl follows refl refl
read_keeps s (Sync editor index r) n room is some read follows =
    still_keeps s (Sync editor index r) (document_cells s) n n room is some refl refl refl follows refl refl

-- room for the entry of a call
pub call_room : (s : State) (n room : ℕ) → IsKept s n room → 0 < s.calls_left → (len : ℕ) → len ≡ length s.history → len < room
call_room s n room is some len len_is =
    let e = entries_are s.history in let a = accepted_few s.history in
    let p = few_versions s.init s.history is.is_core.legal in let r = is.has_room in
    omega (arith, e, a, p, r, some, len_is)

-- another version was published last, by the trees
pub not_last : (s : State) (n room : ℕ) → IsKept s n room → (last_or None (versions_of s.trees) ≡ Some n → ⊥)
    → last_published s.history ≡ Some (accepted s.history) → ⊥
not_last s n room is other e = other (ap (last_or None) is.is_core.has_trees ∙ (e ∙ ap (λ m. Some m) (sym is.count_is)))

-- room for one more version
pub publish_room : (s : State) (n room : ℕ) → IsKept s n room → (last_or None (versions_of s.trees) ≡ Some n → ⊥)
    → (len : ℕ) → len ≡ length s.history → len < room
publish_room s n room is other len len_is =
    let e = entries_are s.history in let a = accepted_few s.history in
    let p = (all_below s.init s.history is.is_core.legal (not_last s n room is other)).0 in let r = is.has_room in
    omega (arith, e, a, p, r, len_is)

-- work on the cells
pub work_keeps : (s : State) (d : DocumentCells) (n room : ℕ) → IsKept s n room → IsWork (document_cells s) d → IsOfDocument d → IsKept (with_cells s d) n room
work_keeps s d n room is work sound = record {
  is_core = record {
    document_is = work.document ∙ is.is_core.document_is;
    legal = is.is_core.legal;
    has_trees = is.is_core.has_trees;
    solved = subst (λ f. AreSolved s.init f s.history s.trees) (sym work.face) is.is_core.solved;
    sound = sound;
    counted = counted_more s.laid d.laid s.trees work.laid is.is_core.counted;
    few_calls = is.is_core.few_calls;
  };
  count_is = is.count_is;
  has_room = is.has_room;
}

versions_more : (trees : List PublishedTreeValue) (t : PublishedTreeValue) → versions_of (trees ++ t ∷ []) ≡ versions_of trees ++ t.version ∷ []
versions_more [] t = refl
versions_more (x ∷ trees) t = ap (λ vs. x.version ∷ vs) (versions_more trees t)

-- the layout of the document is published
pub tree_keeps : (s : State) (tree : List Context) (n room : ℕ) → IsKept s n room → Solves s.document s.face tree → IsCounted s.laid tree
    → (last_published s.history ≡ Some (accepted s.history) → ⊥) → IsKept (with_tree s tree) n room
tree_keeps s tree n room is solves counted other = record {
  is_core = record {
    document_is = core.document_is ∙ sym (doc_after_more s.init s.history e);
    legal = legal_more s.init s.history e core.legal (refl, (all_below s.init s.history core.legal other).1);
    has_trees = versions_more s.trees new ∙ (ap (λ vs. vs ++ accepted s.history ∷ []) core.has_trees ∙ sym (published_more s.history e));
    solved = All-push (λ t. Solves (doc_at s.init (s.history ++ e ∷ []) t.version) s.face t.tree) s.trees new (solved_more s e core)
        (subst (λ x. Solves x s.face tree) (core.document_is ∙ sym (doc_before s.init s.history e (accepted s.history) (omega arith))) solves);
    sound = core.sound;
    counted = All-push (λ t. IsCounted s.laid t.tree) s.trees new core.counted counted;
    few_calls = let f = core.few_calls in let m = call_count_more s.history e in omega (arith, f, m);
  };
  count_is = is.count_is ∙ sym (same_count s.history e refl);
  has_room = let r = is.has_room in let m = call_count_more s.history e in omega (arith, r, m);
}
  where
    core : IsCore s
    core = is.is_core

    e : Entry
    e = Publish (accepted s.history)

    new : PublishedTreeValue
    new = record { version = accepted s.history; tree = tree }

-- nothing has come to a new core
pub new_keeps : (d : Document) (cells : DocumentCells) (calls room : ℕ) → cells.document ≡ d → IsOfDocument cells → calls ≤ 8192 → room ≡ 2 * calls + 2
    → IsKept (record { init = d; face = cells.face; history = []; document = cells.document; cells = cells.cells; trees = []; calls_left = calls; laid = cells.laid }) 0 room
new_keeps d cells calls room d_is sound few room_is = record {
  is_core = record {
    document_is = d_is;
    legal = λ k e at. absurd (none-some e at);
    has_trees = refl;
    solved = λ k x lt. absurd (omega (arith, lt));
    sound = sound;
    counted = λ k x lt. absurd (omega (arith, lt));
    few_calls = omega (arith, few);
  };
  count_is = refl;
  has_room = omega (arith, room_is);
}

-- an edit, and the numbers that are left for later calls
pub edit_leaves : (s : State) (n room : ℕ) → IsKept s n room → HasNumbers s → 0 < s.calls_left
    → (editor index : ℕ) (edits : List Change) (r : Reply) (d : DocumentCells) (n' : ℕ)
    → ChangesTo edits r (document_cells s, n) (d, n') → d.cells.draws ≤ s.cells.draws + 2 ^ 18 → IsOfDocument d
    → IsKept (with_cells (called s (Edit editor index edits r)) d) n' room × HasNumbers (with_cells (called s (Edit editor index edits r)) d)
edit_leaves s n room is has some editor index edits r d n' does few sound =
    (edit_keeps s editor index edits r d n n' room is some does sound, omega (arith, has, some, few))

edit_does : (s : State) (n : ℕ) (editor index : ℕ) (edits : List Change) (r : Reply) (d : DocumentCells) (n' : ℕ) → n ≡ accepted s.history
    → ChangesTo edits r (document_cells s, n) (d, n') → EditsTo s editor index edits r (with_cells (called s (Edit editor index edits r)) d)
edit_does s n editor index edits (Accepted v) d n' count_is does = (
  does.0,
  does.1 ∙ ap (λ x. x + 1) count_is,
  record {
    cells = does.2;
    state = subst (λ (x : DocumentCells). with_cells (called s (Edit editor index edits (Accepted v))) x
        ≡ record (called s (Edit editor index edits (Accepted v))) { document = after_all s.document edits; cells = x.cells }) (sym does.2.state) refl;
  },
)
edit_does s n editor index edits (Refused place f) d n' count_is does = (does.0, ap (with_cells (called s (Edit editor index edits (Refused place f)))) does.1)
edit_does s n editor index edits (Shown v) d n' count_is does = absurd does
edit_does s n editor index edits NoMemory d n' count_is does = (does.0, ap (with_cells (called s (Edit editor index edits NoMemory))) does.1)

pub edits_of : (s now : State) (n room : ℕ) → s ≡ now → IsKept s n room → (editor index : ℕ) (edits : List Change) (r : Reply) (d : DocumentCells) (n' : ℕ)
    → ChangesTo edits r (document_cells s, n) (d, n') → EditsTo now editor index edits r (with_cells (called s (Edit editor index edits r)) d)
edits_of s now n room same is editor index edits r d n' does =
    subst (λ x. EditsTo x editor index edits r (with_cells (called s (Edit editor index edits r)) d)) same
    (edit_does s n editor index edits r d n' is.count_is does)
