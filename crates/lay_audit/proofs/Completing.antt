-- Each history that is read can be completed: a list of edits that is left is refused for its first fault, or for want of memory, as is
-- what is left to be shown; then the present version is published, where it isn't.
use Rattle.std.proofs.Common.{◌≡◌, ℕ, ◌+◌, ◌<◌, ◌≤◌, ◌*◌, zero, suc, List, [], ◌∷◌, ◌++◌, length, fold, Option, Some, None, IfSome, refl, sym, ap, ◌∙◌, subst, arith, append_assoc, append-nil, slice_get, slice_index_or, slice_set, inl, inr}
use Rattle.std.proofs.lemmas.Bool.{cases_eq, cases_lt}
use Rattle.std.proofs.lemmas.List.{get_or-set_other, get_or-set_same}
use Rattle.std.proofs.lemmas.Option.{same_Some, none-some}
use Rattle.lay_history.specs.Edits.EditLists.{IsFirst, after_all, first}
use Rattle.lay_audit.proofs.Cited.{first_is, get_some}
use Rattle.lay_doc.specs.declared.edit.EditFault.{EditFault}
use Rattle.lay_doc.specs.declared.edit.Edit.{Edit as Change}
use Rattle.lay_history.specs.declared.edits.command.Cmd.{Cmd}
use Rattle.lay_history.specs.declared.edits.command.Cmd.TheVariants as command
use Rattle.lay_history.specs.declared.edits.command.Reply.{Reply}
use Rattle.lay_history.specs.declared.edits.command.Reply.TheVariants.{Refused, NoMemory}
use Rattle.lay_history.specs.declared.edits.history.Entry.{Entry}
use Rattle.lay_history.specs.declared.edits.history.Entry.TheVariants.{Publish, Latest, Sync}
use Rattle.lay_history.specs.Histories.{accepted, list_in, last_or, version_in}
use Rattle.lay_history.specs.Trees.{PublishedTreeValue, tree_at}
use Rattle.lay_context.specs.Laws.{OneSolution}
use Rattle.lay_audit.specs.declared.step.Step.TheVariants as step
use Rattle.lay_audit.specs.LegalReports.{Basis, IsWholeRun}
use Rattle.lay_audit.specs.Presents.{Answers, PresentValue, entry_of, next_command}
use Rattle.lay_audit.specs.Readings.{GoesOn, HasLayout, IsLayoutOf, IsPlayed, IsRead, IsTreeOf, LastTreeValue, ReadingValue}
use Rattle.lay_audit.proofs.Fronts.{fronts_whole}
use Rattle.lay_audit.proofs.PlayedTrees.{played_more, published_played, shown_same}
use Rattle.lay_audit.proofs.ReadSteps.{report_behind, report_split}
use Rattle.lay_audit.proofs.VerdictLaws.{CanGoOn}

-- a reply that changes nothing and shows nothing

record IsQuiet (p : PresentValue) (editor index : ℕ) (c : Cmd) : Type 0 where
  reply : Reply
  right : Answers p c reply
  no_edit : list_in (entry_of editor index c reply) ≡ []
  no_version : version_in (entry_of editor index c reply) ≡ []

quiet_edits : (p : PresentValue) (editor index : ℕ) (edits : List Change) (o : Option (ℕ × EditFault)) → first p.document edits ≡ o → IsQuiet p editor index (command.Edits edits)
quiet_edits p editor index edits None e =
    record { reply = NoMemory; right = λ one. subst (IsFirst p.document edits) e (first_is p.document edits) 0; no_edit = refl; no_version = refl }
quiet_edits p editor index edits (Some (k, f)) e = record { reply = Refused k f; right = e; no_edit = refl; no_version = refl }

quiet : (p : PresentValue) (editor index : ℕ) (c : Cmd) → IsQuiet p editor index c
quiet p editor index (command.Edits edits) = quiet_edits p editor index edits (first p.document edits) refl
quiet p editor index command.Latest = record { reply = NoMemory; right = tt; no_edit = refl; no_version = refl }
quiet p editor index command.Sync = record { reply = NoMemory; right = tt; no_edit = refl; no_version = refl }

-- a history goes on quietly
record GoesQuietly (basis : Basis) (h : List Entry) (p : PresentValue) (t : LastTreeValue) : Type 0 where
  whole : List Entry
  goes : GoesOn h whole
  now : PresentValue
  played : IsPlayed basis whole now t
  document_is : now.document ≡ p.document
  count_is : now.count ≡ p.count
  last_is : now.last ≡ p.last

goes_further : (g h k : List Entry) → GoesOn g h → GoesOn h k → GoesOn g k
goes_further g h k a b = record { later = a.later ++ b.later; history_is = b.history_is ∙ (ap (λ x. x ++ b.later) a.history_is ∙ append_assoc g a.later b.later) }

command_there : (script : List Cmd) (n : ℕ) (o : Option Cmd) → slice_get script n ≡ o → n < length script → (c : Cmd) × (slice_get script n ≡ Some c)
command_there script n None e lt = absurd (get_some script n lt e)
command_there script n (Some c) e lt = (c, e)

-- one command is answered quietly
record AnswersOne (basis : Basis) (h : List Entry) (p : PresentValue) (t : LastTreeValue) (place : ℕ) : Type 0 where
  goes : GoesQuietly basis h p t
  next_is : goes.now.next ≡ slice_set p.next place (slice_index_or p.next place 0 + 1)

one_answer : (basis : Basis) (h : List Entry) (p : PresentValue) (t : LastTreeValue) (place : ℕ) (c : Cmd) → IsPlayed basis h p t
    → next_command basis.scripts p place ≡ Some c → IsQuiet p (suc place) (slice_index_or p.next place 0) c → AnswersOne basis h p t place
one_answer basis h p t place c played at q = record {
  goes = record {
    whole = h ++ entry_of (suc place) (slice_index_or p.next place 0) c q.reply ∷ [];
    goes = record { later = entry_of (suc place) (slice_index_or p.next place 0) c q.reply ∷ []; history_is = refl };
    now = now;
    played = played_more basis h p now t (step.Answer place q.reply) (entry_of (suc place) (slice_index_or p.next place 0) c q.reply) q.no_version played
        (record { command = c; command_is = at; answers = q.right; entry_is = refl })
        (record {
          document_is = ap (fold after_all p.document) (sym q.no_edit);
          count_is = (let l : length (list_in (entry_of (suc place) (slice_index_or p.next place 0) c q.reply)) ≡ 0 = ap (λ x. length x) q.no_edit in omega (arith, l));
          last_is = ap (last_or p.last) (sym q.no_version);
          next_is = refl;
        });
    document_is = refl;
    count_is = refl;
    last_is = refl;
  };
  next_is = refl;
}
  where
    now : PresentValue
    now = record { document = p.document; count = p.count; last = p.last; next = slice_set p.next place (slice_index_or p.next place 0 + 1) }

answers_one : (basis : Basis) (h : List Entry) (p : PresentValue) (t : LastTreeValue) (place : ℕ) → IsPlayed basis h p t
    → slice_index_or p.next place 0 < length (slice_index_or basis.scripts place []) → AnswersOne basis h p t place
answers_one basis h p t place played lt =
    let there = command_there (slice_index_or basis.scripts place []) (slice_index_or p.next place 0) (next_command basis.scripts p place) refl lt in
    one_answer basis h p t place there.0 played there.1 (quiet p (suc place) (slice_index_or p.next place 0) there.0)

-- all commands of the editor at a place are
record AnswersPlace (basis : Basis) (h : List Entry) (p : PresentValue) (t : LastTreeValue) (place : ℕ) : Type 0 where
  goes : GoesQuietly basis h p t
  own : slice_index_or goes.now.next place 0 ≡ length (slice_index_or basis.scripts place [])
  others : (k : ℕ) → (place ≡ k → ⊥) → slice_index_or goes.now.next k 0 ≡ slice_index_or p.next k 0

own_grown : (basis : Basis) (h : List Entry) (p : PresentValue) (t : LastTreeValue) (place : ℕ) → IsPlayed basis h p t → place < length basis.scripts
    → (one : AnswersOne basis h p t place) → slice_index_or one.goes.now.next place 0 ≡ slice_index_or p.next place 0 + 1
own_grown basis h p t place played lt one =
    ap (λ x. slice_index_or x place 0) one.next_is
    ∙ get_or-set_same p.next place (slice_index_or p.next place 0 + 1) 0 (let e = played.present.editors in omega (arith, e, lt))

place_more : (basis : Basis) (h : List Entry) (p : PresentValue) (t : LastTreeValue) (place : ℕ) (one : AnswersOne basis h p t place)
    → AnswersPlace basis one.goes.whole one.goes.now t place → AnswersPlace basis h p t place
place_more basis h p t place one rest = record {
  goes = record {
    whole = rest.goes.whole;
    goes = goes_further h one.goes.whole rest.goes.whole one.goes.goes rest.goes.goes;
    now = rest.goes.now;
    played = rest.goes.played;
    document_is = rest.goes.document_is ∙ one.goes.document_is;
    count_is = rest.goes.count_is ∙ one.goes.count_is;
    last_is = rest.goes.last_is ∙ one.goes.last_is;
  };
  own = rest.own;
  others = λ k other. rest.others k other ∙ (ap (λ x. slice_index_or x k 0) one.next_is ∙ get_or-set_other p.next place k (slice_index_or p.next place 0 + 1) 0 (λ e. other (sym e)));
}

answers_place : (basis : Basis) (n : ℕ) (h : List Entry) (p : PresentValue) (t : LastTreeValue) (place : ℕ) → IsPlayed basis h p t → place < length basis.scripts
    → slice_index_or p.next place 0 + n ≡ length (slice_index_or basis.scripts place []) → AnswersPlace basis h p t place
answers_place basis zero h p t place played lt left = record {
  goes = record { whole = h; goes = record { later = []; history_is = sym (append-nil h) }; now = p; played = played; document_is = refl; count_is = refl; last_is = refl };
  own = omega (arith, left);
  others = λ k other. refl;
}
answers_place basis (suc n) h p t place played lt left =
    let one = answers_one basis h p t place played (omega (arith, left)) in
    place_more basis h p t place one (answers_place basis n one.goes.whole one.goes.now t place one.goes.played lt
    (let g = own_grown basis h p t place played lt one in omega (arith, g, left)))

-- and all commands of the first n editors
record AnswersPlaces (basis : Basis) (h : List Entry) (p : PresentValue) (t : LastTreeValue) (n : ℕ) : Type 0 where
  goes : GoesQuietly basis h p t
  full : (k : ℕ) → k < n → slice_index_or goes.now.next k 0 ≡ length (slice_index_or basis.scripts k [])

left_of : (a b : ℕ) → a ≤ b → (n : ℕ) × (a + n ≡ b)
left_of zero b le = (b, omega arith)
left_of (suc a) zero le = absurd (omega (arith, le))
left_of (suc a) (suc b) le = let r = left_of a b (omega (arith, le)) in let e = r.1 in (r.0, omega (arith, e))

by_ne : (k m : ℕ) → k < suc m → (m ≡ k → ⊥) → k < m
by_ne k m lt other = elim (cases_lt k m) [ inl low ↦ low | inr high ↦ absurd (other (omega (arith, lt, high))) ]

places_more : (basis : Basis) (n : ℕ) (h : List Entry) (p : PresentValue) (t : LastTreeValue) (before : AnswersPlaces basis h p t n)
    → AnswersPlace basis before.goes.whole before.goes.now t n → AnswersPlaces basis h p t (suc n)
places_more basis n h p t before last = record {
  goes = record {
    whole = last.goes.whole;
    goes = goes_further h before.goes.whole last.goes.whole before.goes.goes last.goes.goes;
    now = last.goes.now;
    played = last.goes.played;
    document_is = last.goes.document_is ∙ before.goes.document_is;
    count_is = last.goes.count_is ∙ before.goes.count_is;
    last_is = last.goes.last_is ∙ before.goes.last_is;
  };
  full = λ k lt. elim (cases_eq n k) [
    | inl own ↦ subst (λ j. slice_index_or last.goes.now.next j 0 ≡ length (slice_index_or basis.scripts j [])) own last.own
    | inr other ↦ last.others k other ∙ before.full k (by_ne k n lt other)
  ];
}

answers_places : (basis : Basis) (n : ℕ) (h : List Entry) (p : PresentValue) (t : LastTreeValue) → IsPlayed basis h p t → n ≤ length basis.scripts → AnswersPlaces basis h p t n
answers_places basis zero h p t played le = record {
  goes = record { whole = h; goes = record { later = []; history_is = sym (append-nil h) }; now = p; played = played; document_is = refl; count_is = refl; last_is = refl };
  full = λ k lt. absurd (omega (arith, lt));
}
answers_places basis (suc n) h p t played le =
    let before = answers_places basis n h p t played (omega (arith, le)) in
    let left = left_of (slice_index_or before.goes.now.next n 0) (length (slice_index_or basis.scripts n [])) (before.goes.played.present.within n) in
    places_more basis n h p t before (answers_place basis left.0 before.goes.whole before.goes.now t n before.goes.played le left.1)

pub none_next : (xs : List ℕ) (k : ℕ) → length xs ≤ k → slice_index_or xs k 0 ≡ 0
none_next [] k le = refl
none_next (x ∷ xs) zero le = absurd (omega (arith, le))
none_next (x ∷ xs) (suc k) le = none_next xs k (omega (arith, le))

pub none_there : (scripts : List (List Cmd)) (k : ℕ) → length scripts ≤ k → length (slice_index_or scripts k []) ≡ 0
none_there [] k le = refl
none_there (x ∷ xs) zero le = absurd (omega (arith, le))
none_there (x ∷ xs) (suc k) le = none_there xs k (omega (arith, le))

all_full : (basis : Basis) (h : List Entry) (p : PresentValue) (t : LastTreeValue) (all : AnswersPlaces basis h p t (length basis.scripts)) (place : ℕ)
    → slice_index_or all.goes.now.next place 0 ≡ length (slice_index_or basis.scripts place [])
all_full basis h p t all place = elim (cases_lt place (length basis.scripts)) [
  | inl lt ↦ all.full place lt
  | inr le ↦ none_next all.goes.now.next place (let e = all.goes.played.present.editors in omega (arith, le, e)) ∙ sym (none_there basis.scripts place le)
]

-- a whole run that goes on from a history, and its last tree
record EndsSo (basis : Basis) (h : List Entry) : Type 0 where
  whole : List Entry
  goes : GoesOn h whole
  now : PresentValue
  tree : LastTreeValue
  played : IsPlayed basis whole now tree
  all : (place : ℕ) → slice_index_or now.next place 0 ≡ length (slice_index_or basis.scripts place [])
  last : now.last ≡ Some now.count

ends_so : (basis : Basis) (h : List Entry) (p : PresentValue) (t : LastTreeValue) → IsPlayed basis h p t
    → ((p.last ≡ Some p.count → ⊥) → HasLayout p.document basis.face) → EndsSo basis h
ends_so basis h p t played layout = by all.goes.now.last refl
  where
    all : AnswersPlaces basis h p t (length basis.scripts)
    all = answers_places basis (length basis.scripts) h p t played (omega arith)

    same : (o : Option ℕ) (n : ℕ) → all.goes.now.last ≡ o → p.last ≡ o
    same o n e = sym all.goes.last_is ∙ e

    published : all.goes.now.last ≡ Some all.goes.now.count → EndsSo basis h
    published e = record { whole = all.goes.whole; goes = all.goes.goes; now = all.goes.now; tree = t; played = all.goes.played; all = all_full basis h p t all; last = e }

    publishes : (all.goes.now.last ≡ Some all.goes.now.count → ⊥) → EndsSo basis h
    publishes other =
        let q = all.goes.now in
        let new : HasLayout p.document basis.face = layout (λ e. other (all.goes.last_is ∙ (e ∙ ap (λ n. Some n) (sym all.goes.count_is)))) in
        record {
          whole = all.goes.whole ++ Publish all.goes.now.count ∷ [];
          goes = goes_further h all.goes.whole (all.goes.whole ++ Publish all.goes.now.count ∷ []) all.goes.goes (record { later = Publish all.goes.now.count ∷ []; history_is = refl });
          now = record { document = all.goes.now.document; count = all.goes.now.count; last = Some all.goes.now.count; next = all.goes.now.next };
          tree = new.0;
          played = published_played basis all.goes.whole all.goes.now (record { document = all.goes.now.document; count = all.goes.now.count; last = Some all.goes.now.count; next = all.goes.now.next }) t new.0
              (Publish all.goes.now.count) all.goes.played (other, refl)
              (record { document_is = refl; count_is = omega arith; last_is = refl; next_is = refl })
              (subst (λ d. IsLayoutOf d basis.face new.0) (sym all.goes.document_is) new.1);
          all = all_full basis h p t all;
          last = refl;
        }

    by : (o : Option ℕ) → all.goes.now.last ≡ o → EndsSo basis h
    by None e = publishes (λ f. none-some all.goes.now.count (sym e ∙ f))
    by (Some v) e = elim (cases_eq v all.goes.now.count) [
      | inl own ↦ published (e ∙ ap (λ n. Some n) own)
      | inr other ↦ publishes (λ f. other (same_Some v all.goes.now.count (sym e ∙ f)))
    ]

-- so a legal report begins with what was read and with the lines that come next
pub completed : OneSolution → (basis : Basis) (text : List ℕ) (r : ReadingValue) (pending seen left : List ℕ) (is : IsRead basis text r pending) → pending ≡ seen ++ left
    → ((r.present.last ≡ Some r.present.count → ⊥) → HasLayout r.present.document basis.face) → CanGoOn basis (is.front ++ seen)
completed one basis text r pending seen left is parts layout = record {
  more = left ++ report_behind trees ends.goes.later (accepted ends.whole) (3 * length tree.tree);
  legal = record {
    history = ends.whole;
    trees = trees;
    last = tree.tree;
    laid = 3 * length tree.tree;
    run = run;
    last_is = ap (λ n. tree_at n trees) (sym ends.played.present.count_is)
        ∙ shown_same one basis ends.whole ends.whole trees ends.tree ends.now.count run (record { later = []; history_is = sym (append-nil ends.whole) }) ends.played.present.legal
        (sym ends.played.present.last_is ∙ ends.last) tree;
    enough = omega arith;
    within = tree.few;
    text_is = sym (report_split trees is.history ends.goes.later ends.whole (3 * length tree.tree) ends.goes.history_is
        ∙ (ap (λ x. x ++ behind) (is.writes ends.whole trees run ends.goes ∙ ap (λ x. is.front ++ x) parts)
        ∙ (ap (λ x. x ++ behind) (sym (append_assoc is.front seen left)) ∙ append_assoc (is.front ++ seen) left behind)));
  };
}
  where
    ends : EndsSo basis is.history
    ends = ends_so basis is.history r.present r.tree is.played layout

    trees : List PublishedTreeValue
    trees = ends.played.have_trees.trees

    tree : IsTreeOf basis ends.whole ends.tree ends.now.count
    tree = subst (λ o. IfSome o (IsTreeOf basis ends.whole ends.tree)) ends.last ends.played.last_tree

    behind : List ℕ
    behind = report_behind ends.played.have_trees.trees ends.goes.later (accepted ends.whole) (3 * length tree.tree)

    run : IsWholeRun basis ends.whole ends.played.have_trees.trees
    run = record {
      legal = ends.played.present.legal;
      answers = fronts_whole basis.scripts ends.whole ends.now.next ends.played.present.answered ends.all;
      whole = sym ends.played.present.last_is ∙ (ends.last ∙ ap (λ n. Some n) ends.played.present.count_is);
      has_trees = ends.played.have_trees.has_trees;
      solved = ends.played.have_trees.solved;
    }
