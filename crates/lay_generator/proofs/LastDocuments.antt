-- No edit of a generated run has a fault, and its document comes to the same whatever order its editors take.
use Rattle.std.proofs.Common.{◌≡◌, ℕ, zero, suc, ◌+◌, ◌*◌, ◌%◌, ◌<◌, ◌≤◌, List, [], ◌∷◌, ◌++◌, length, fold, slice_get, take, refl, sym, ap, ◌∙◌, subst, arith, Option, Some, None, All}
use Rattle.std.proofs.lemmas.List.Elements.{All-cons, All-head, All-nil, All-tail, All-take}
use Rattle.lay_doc.specs.declared.edit.Edit.{Edit as Change}
use Rattle.lay_doc.specs.declared.edit.EditFault.{EditFault}
use Rattle.lay_doc.specs.Document.{Document}
use Rattle.lay_doc.specs.Changes.{style_fault}
use Rattle.lay_doc.specs.Edits.{after, fault}
use Rattle.lay_history.specs.Edits.EditLists.{after_all, first}
use Rattle.lay_history.specs.declared.edits.command.Cmd.TheVariants as command
use Rattle.lay_history.specs.declared.edits.command.Reply.{Reply}
use Rattle.lay_history.specs.declared.edits.command.Reply.TheVariants.{Accepted, NoMemory, Refused, Shown}
use Rattle.lay_history.specs.declared.edits.history.Entry.{Entry}
use Rattle.lay_history.specs.declared.edits.history.Entry.TheVariants.{Edit, Publish, Latest, Sync}
use Rattle.lay_history.specs.Calls.{AnswersScripts, Call, calls, calls_of}
use Rattle.lay_history.specs.Histories.{list_if_accepted, lists}
use Rattle.lay_history.specs.Legal.{IsLegal, doc_after}
use Rattle.lay_history.proofs.Lists.{all_at}
use Rattle.lay_history.proofs.OneMore.{doc_whole}
use Rattle.lay_generator.specs.Nodes.{sections_end}
use Rattle.lay_generator.specs.Generated.{generated}
use Rattle.lay_generator.specs.LastDocuments.{after_lists, last_document, lists_of}
use Rattle.lay_generator.specs.Laws.{ResultsIn, GeneratedEditsFit, GeneratedNodesStay, GeneratedRunsComeToOne, IsListOf, NoneLacked, NoneRefused}
use Rattle.lay_generator.proofs.Accepted.{AreAccepted, ArePart, accepted_part, all_given}
use Rattle.lay_generator.proofs.EditorOrder.{IsGoodCall, by_editors, given, good_calls}
use Rattle.lay_generator.proofs.Faultless.{generated_sections}
use Rattle.lay_generator.proofs.Paddings.{ArePaddings, IsPadding, OfOne, each_of_one, script_calls_give}
use Rattle.lay_generator.proofs.Placed.{may_be_styled}
use Rattle.lay_generator.proofs.StyledNodes.{SameNodes, fault_stays, nodes_same, same_on, styled_same, styles_exchanged}

-- the block of each section may be styled
abbrev HasBlocks : ℕ → Document → Type 0
HasBlocks size d = (section : ℕ) → section < size → style_fault d (4 + 4 * section) ≡ None

blocks_stay : (size : ℕ) (d e : Document) → SameNodes d e → HasBlocks size d → HasBlocks size e
blocks_stay size d e same blocks section within = fault_stays d e (4 + 4 * section) same ∙ blocks section within

generated_blocks : (size seed : ℕ) → size ≤ 1000 → HasBlocks size (generated size seed).doc
generated_blocks size seed few section within = may_be_styled (generated size seed).doc (4 + 4 * section) 3 ((generated_sections size seed few).blocks section within)

-- one edit
padding_same : (size editor : ℕ) (d : Document) (e : Change) → IsPadding size editor e → SameNodes d (after d e)
padding_same size editor d e is = rw is.is (styled_same d (4 + 4 * is.section) is.decl)

padding_fits : (size editor : ℕ) (d : Document) (e : Change) → HasBlocks size d → IsPadding size editor e → fault d e ≡ None
padding_fits size editor d e blocks is = rw is.is (blocks is.section is.owned.within)

paddings_exchanged : (size a b : ℕ) (d : Document) (x y : Change) → IsPadding size a x → IsPadding size b y → (a ≡ b → ⊥) → after (after d x) y ≡ after (after d y) x
paddings_exchanged size a b d x y of_a of_b apart =
    rw (of_a.is, of_b.is) (styles_exchanged d (4 + 4 * of_a.section) (4 + 4 * of_b.section) of_a.decl of_b.decl (λ same. apart (
    let one : of_a.section ≡ of_b.section = omega (arith, same) in
    sym of_a.owned.own ∙ (ap (λ (s : ℕ). s % 4 + 1) one ∙ of_b.owned.own))))

-- a list of them
list_same : (size editor : ℕ) (d : Document) (edits : List Change) → ArePaddings size editor edits → SameNodes d (after_all d edits)
list_same size editor d [] are = nodes_same d
list_same size editor d (e ∷ es) are =
    same_on d (after d e) (after_all (after d e) es) (padding_same size editor d e (All-head (IsPadding size editor) e es are))
    (list_same size editor (after d e) es (All-tail (IsPadding size editor) e es are))

list_fits : (size editor : ℕ) (d : Document) (edits : List Change) → HasBlocks size d → ArePaddings size editor edits → first d edits ≡ None
list_fits size editor d [] blocks are = refl
list_fits size editor d (e ∷ es) blocks are =
    let one = All-head (IsPadding size editor) e es are in
    let rest = list_fits size editor (after d e) es (blocks_stay size d (after d e) (padding_same size editor d e one) blocks) (All-tail (IsPadding size editor) e es are) in
    rw (padding_fits size editor d e blocks one, rest) refl

passes : (size a b : ℕ) (d : Document) (x : Change) (ys : List Change) → IsPadding size a x → ArePaddings size b ys → (a ≡ b → ⊥)
    → after_all (after d x) ys ≡ after (after_all d ys) x
passes size a b d x [] of_a of_b apart = refl
passes size a b d x (y ∷ ys) of_a of_b apart =
    ap (λ z. after_all z ys) (paddings_exchanged size a b d x y of_a (All-head (IsPadding size b) y ys of_b) apart)
    ∙ passes size a b (after d y) x ys of_a (All-tail (IsPadding size b) y ys of_b) apart

lists_exchanged : (size : ℕ) (d : Document) (a b : ℕ) (xs ys : List Change) → ArePaddings size a xs → ArePaddings size b ys → (a ≡ b → ⊥)
    → after_all (after_all d xs) ys ≡ after_all (after_all d ys) xs
lists_exchanged size d a b [] ys of_a of_b apart = refl
lists_exchanged size d a b (x ∷ xs) ys of_a of_b apart =
    lists_exchanged size (after d x) a b xs ys (All-tail (IsPadding size a) x xs of_a) of_b apart
    ∙ ap (λ z. after_all z xs) (passes size a b d x ys (All-head (IsPadding size a) x xs of_a) of_b apart)

-- lists of any editors
lists_same : (size : ℕ) (d : Document) (before : List (List Change)) → All (OfOne size) before → SameNodes d (fold after_all d before)
lists_same size d [] all = nodes_same d
lists_same size d (xs ∷ before) all =
    let one = All-head (OfOne size) xs before all in
    same_on d (after_all d xs) (fold after_all (after_all d xs) before) (list_same size one.0 d xs one.1)
    (lists_same size (after_all d xs) before (All-tail (OfOne size) xs before all))

own_list : (size seed : ℕ) (edits : List Change) → IsListOf (generated size seed) edits → OfOne size edits
own_list size seed edits is =
    all_at (OfOne size) (lists_of (generated size seed).scripts) is.0 edits (each_of_one size 4 1 (sections_end size seed) (omega arith)) is.1

own_lists : (size seed : ℕ) (before : List (List Change)) → All (IsListOf (generated size seed)) before → All (OfOne size) before
own_lists size seed before all = λ k d lt. own_list size seed _ (all k d lt)

fits_behind : (size seed : ℕ) (before : List (List Change)) (edits : List Change) → size ≤ 1000 → All (OfOne size) before → OfOne size edits
    → first (after_lists (generated size seed) before) edits ≡ None
fits_behind size seed before edits few all is =
    let d = (generated size seed).doc in
    list_fits size is.0 (fold after_all d before) edits
    (blocks_stay size d (fold after_all d before) (lists_same size d before all) (generated_blocks size seed few)) is.1

pub generated_edits_fit : GeneratedEditsFit
generated_edits_fit size seed before edits few all is = fits_behind size seed before edits few (own_lists size seed before all) (own_list size seed edits is)

pub generated_nodes_stay : GeneratedNodesStay
generated_nodes_stay size seed before few all =
    (lists_same size (generated size seed).doc before (own_lists size seed before all)).count ∙ (generated_sections size seed few).fits.count

-- an entry whose list of edits is some editor's
abbrev IsGoodEntry : ℕ → Entry → Type 0
IsGoodEntry size (Edit editor index edits reply) = OfOne size edits
IsGoodEntry size (Publish version) = Unit {0}
IsGoodEntry size (Latest editor index reply) = Unit {0}
IsGoodEntry size (Sync editor index reply) = Unit {0}

good_entries : (size : ℕ) (h : List Entry) → All (IsGoodCall (ArePaddings size)) (calls h) → All (IsGoodEntry size) h
good_entries size [] all = All-nil (IsGoodEntry size)
good_entries size (Edit editor index edits reply ∷ h) all =
    let c : Call = record { editor = editor; index = index; command = command.Edits edits } in
    All-cons (IsGoodEntry size) (Edit editor index edits reply) h
    (editor, All-head (ArePaddings size editor) edits [] (All-head (IsGoodCall (ArePaddings size)) c (calls h) all))
    (good_entries size h (All-tail (IsGoodCall (ArePaddings size)) c (calls h) all))
good_entries size (Publish version ∷ h) all = All-cons (IsGoodEntry size) (Publish version) h tt (good_entries size h all)
good_entries size (Latest editor index reply ∷ h) all =
    let c : Call = record { editor = editor; index = index; command = command.Latest } in
    All-cons (IsGoodEntry size) (Latest editor index reply) h tt (good_entries size h (All-tail (IsGoodCall (ArePaddings size)) c (calls h) all))
good_entries size (Sync editor index reply ∷ h) all =
    let c : Call = record { editor = editor; index = index; command = command.Sync } in
    All-cons (IsGoodEntry size) (Sync editor index reply) h tt (good_entries size h (All-tail (IsGoodCall (ArePaddings size)) c (calls h) all))

accepted_lists : (size : ℕ) (h : List Entry) → All (IsGoodEntry size) h → All (OfOne size) (lists h)
accepted_lists size [] all = All-nil (OfOne size)
accepted_lists size (Edit editor index edits reply ∷ h) all =
    by_reply reply (accepted_lists size h (All-tail (IsGoodEntry size) (Edit editor index edits reply) h all))
  where
    by_reply : (r : Reply) → All (OfOne size) (lists h) → All (OfOne size) (list_if_accepted edits r ++ lists h)
    by_reply (Accepted version) rest = All-cons (OfOne size) edits (lists h) (All-head (IsGoodEntry size) (Edit editor index edits reply) h all) rest
    by_reply (Refused place f) rest = rest
    by_reply (Shown version) rest = rest
    by_reply NoMemory rest = rest
accepted_lists size (Publish version ∷ h) all = accepted_lists size h (All-tail (IsGoodEntry size) (Publish version) h all)
accepted_lists size (Latest editor index reply ∷ h) all = accepted_lists size h (All-tail (IsGoodEntry size) (Latest editor index reply) h all)
accepted_lists size (Sync editor index reply ∷ h) all = accepted_lists size h (All-tail (IsGoodEntry size) (Sync editor index reply) h all)

not_both : (o : Option (ℕ × EditFault)) (p : ℕ × EditFault) → o ≡ None → o ≡ Some p → ⊥
not_both None p none some = absurd cc
not_both (Some q) p none some = absurd cc

counted : (n : ℕ) (xs : List (List Change)) → fold (λ m x. suc m) n xs ≡ n + length xs
counted n [] = let e : n ≡ n + 0 = omega arith in e
counted n (x ∷ xs) = let rest = counted (suc n) xs in omega (arith, rest)

module _ (size seed : ℕ) (h : List Entry) (few : size ≤ 1000) (legal : IsLegal (generated size seed).doc h) (answers : AnswersScripts h (generated size seed).scripts) where
  abbrev ready : Document
  ready = (generated size seed).doc

  abbrev all_lists : List (List Change)
  all_lists = lists_of (generated size seed).scripts

  good_of : (editor : ℕ) → All (IsGoodCall (ArePaddings size)) (calls_of editor (calls h))
  good_of zero = subst (All (IsGoodCall (ArePaddings size))) (sym (answers 0)) (All-nil (IsGoodCall (ArePaddings size)))
  good_of (suc place) = subst (All (IsGoodCall (ArePaddings size))) (sym (answers (suc place))) (script_calls_give size (sections_end size seed) place)

  good_calls_all : All (IsGoodCall (ArePaddings size)) (calls h)
  good_calls_all = good_calls (IsGoodCall (ArePaddings size)) (calls h) good_of

  entries : All (IsGoodEntry size) h
  entries = good_entries size h good_calls_all

  no_fault : (k editor index : ℕ) (edits : List Change) (reply : Reply) → slice_get h k ≡ Some (Edit editor index edits reply)
      → first (doc_after ready (take k h)) edits ≡ None
  no_fault k editor index edits reply at =
      ap (λ d. first d edits) (doc_whole ready (take k h))
      ∙ fits_behind size seed (lists (take k h)) edits few (accepted_lists size (take k h) (All-take (IsGoodEntry size) k h entries))
      (all_at (IsGoodEntry size) h k (Edit editor index edits reply) entries at)

  not_refused : NoneRefused h
  not_refused k editor index place edits f at =
      not_both (first (doc_after ready (take k h)) edits) (place, f)
      (no_fault k editor index edits (Refused place f) at) (legal k (Edit editor index edits (Refused place f)) at)

  accepted_all : NoneLacked h → AreAccepted h
  accepted_all lack k editor index edits (Accepted version) at = (version, refl)
  accepted_all lack k editor index edits (Refused place f) at = absurd (not_refused k editor index place edits f at)
  accepted_all lack k editor index edits (Shown version) at = absurd (legal k (Edit editor index edits (Shown version)) at)
  accepted_all lack k editor index edits NoMemory at = absurd (lack k editor index edits at)

  -- what the calls' lists do, the scripts' do, editor after editor
  as_scripts : {D : Type 0} (step : D → List Change → D)
      → ((d : D) (a b : ℕ) (xs ys : List Change) → ArePaddings size a xs → ArePaddings size b ys → (a ≡ b → ⊥) → step (step d xs) ys ≡ step (step d ys) xs)
      → (d : D) → fold step d (given (calls h)) ≡ fold step d all_lists
  as_scripts step exchanged d = by_editors step (ArePaddings size) exchanged (generated size seed).scripts (calls h) d good_calls_all (answers 0) (λ j. answers (suc j))

  count : length (given (calls h)) ≡ length all_lists
  count =
      let one = as_scripts (λ m x. suc m) (λ d a b xs ys of_a of_b apart. refl) 0 in
      let given_count = counted 0 (given (calls h)) in
      let script_count = counted 0 all_lists in
      omega (arith, one, given_count, script_count)

  part : ArePart (lists h) (given (calls h))
  part = accepted_part h

  comes_to : ResultsIn (generated size seed) (last_document (generated size seed)) h
  comes_to = record {
    none_refused = not_refused;
    nodes_stay = ap (λ (d : Document). length d.nodes) (doc_whole ready h) ∙ (lists_same size ready (lists h) (accepted_lists size h entries)).count;
    few = omega (arith, part.few, count);
    all_accepted = λ lack. ap length (all_given h (accepted_all lack)) ∙ count;
    last_is = λ same.
        doc_whole ready h ∙ (ap (fold after_all ready) (part.whole (same ∙ sym count)) ∙ as_scripts after_all (lists_exchanged size) ready);
  }

pub generated_runs_come_to_one : GeneratedRunsComeToOne
generated_runs_come_to_one size seed h few legal answers = comes_to size seed h few legal answers
