-- A history with one more entry.
use Rattle.std.proofs.Common.{◌≡◌, ◌≤◌, ℕ, ◌+◌, zero, suc, List, [], ◌∷◌, ◌++◌, length, take, fold, Option, Some, None, refl, sym, ap, ◌∙◌, subst, arith, append-nil, length-append, inl, inr, slice_get}
use Rattle.std.proofs.lemmas.List.Concat.{flat_map-append}
use Rattle.std.proofs.lemmas.List.Sums.{fold-append}
use Rattle.std.proofs.lemmas.List.{take-append-le}
use Rattle.lay_doc.specs.Document.{Document}
use Rattle.lay_history.specs.Edits.EditLists.{after_all}
use Rattle.lay_history.specs.declared.edits.history.Entry.{Entry}
use Rattle.lay_history.specs.Histories.{accepted, doc_at, list_in, lists, last_or, published, version_in}
use Rattle.lay_history.specs.Legal.{IsLegal, MayFollow, doc_after}
use Rattle.lay_history.specs.Calls.{call_in, calls}
use Rattle.lay_history.proofs.Lists.{get_more, get_some, take_more, take_whole}

pub lists_more : (h : List Entry) (e : Entry) → lists (h ++ e ∷ []) ≡ lists h ++ list_in e
lists_more h e = rw (flat_map-append list_in h (e ∷ []), append-nil (list_in e)) refl

pub published_more : (h : List Entry) (e : Entry) → published (h ++ e ∷ []) ≡ published h ++ version_in e
published_more h e = rw (flat_map-append version_in h (e ∷ []), append-nil (version_in e)) refl

pub calls_more : (h : List Entry) (e : Entry) → calls (h ++ e ∷ []) ≡ calls h ++ call_in e
calls_more h e = rw (flat_map-append call_in h (e ∷ []), append-nil (call_in e)) refl

pub accepted_more : (h : List Entry) (e : Entry) → accepted (h ++ e ∷ []) ≡ accepted h + length (list_in e)
accepted_more h e = rw (lists_more h e) (length-append (lists h) (list_in e))

pub call_count_more : (h : List Entry) (e : Entry) → length (calls (h ++ e ∷ [])) ≡ length (calls h) + length (call_in e)
call_count_more h e = rw (calls_more h e) (length-append (calls h) (call_in e))

-- the documents of earlier versions stay
pub doc_before : (init : Document) (h : List Entry) (e : Entry) (v : ℕ) → v ≤ accepted h → doc_at init (h ++ e ∷ []) v ≡ doc_at init h v
doc_before init h e v le = ap (fold after_all init) (ap (take v) (lists_more h e) ∙ take-append-le v (lists h) (list_in e) le)

pub doc_whole : (init : Document) (h : List Entry) → doc_after init h ≡ fold after_all init (lists h)
doc_whole init h = ap (fold after_all init) (take_whole (lists h))

pub doc_after_more : (init : Document) (h : List Entry) (e : Entry) → doc_after init (h ++ e ∷ []) ≡ fold after_all (doc_after init h) (list_in e)
doc_after_more init h e =
    doc_whole init (h ++ e ∷ []) ∙ (ap (fold after_all init) (lists_more h e) ∙ (fold-append after_all init (lists h) (list_in e)
    ∙ ap (λ d. fold after_all d (list_in e)) (sym (doc_whole init h))))

pub legal_more : (init : Document) (h : List Entry) (e : Entry) → IsLegal init h → MayFollow init h e → IsLegal init (h ++ e ∷ [])
legal_more init h e legal follows k x at = elim (get_more h e x k at) [
  | inl old ↦ subst (λ p. MayFollow init p x) (sym (take-append-le k h (e ∷ []) (let lt = old.0 in omega (arith, lt)))) (legal k x old.1)
  | inr new ↦ subst (λ y. MayFollow init (take k (h ++ e ∷ [])) y) new.1
      (subst (λ p. MayFollow init p e) (sym (ap (λ n. take n (h ++ e ∷ [])) new.0 ∙ (take-append-le (length h) h (e ∷ []) (omega arith) ∙ take_whole h))) follows)
]

-- what holds of the empty history and of one more entry holds of each legal history
pub front_holds : (P : List Entry → Type 0) (init : Document) (h : List Entry) (k : ℕ) → k ≤ length h → IsLegal init h → P []
    → ((before : List Entry) (e : Entry) → MayFollow init before e → P before → P (before ++ e ∷ [])) → P (take k h)
front_holds P init h zero le legal base step = base
front_holds P init h (suc k) le legal base step =
    with_entry (slice_get h k) refl (front_holds P init h k (omega (arith, le)) legal base step)
  where
    with_entry : (o : Option Entry) → slice_get h k ≡ o → P (take k h) → P (take (suc k) h)
    with_entry None e so_far = absurd (get_some h k (omega (arith, le)) e)
    with_entry (Some x) e so_far = subst P (sym (take_more h k x e)) (step (take k h) x (legal k x e) so_far)

pub legal_holds : (P : List Entry → Type 0) (init : Document) (h : List Entry) → IsLegal init h → P []
    → ((before : List Entry) (e : Entry) → MayFollow init before e → P before → P (before ++ e ∷ [])) → P h
legal_holds P init h legal base step = subst P (take_whole h) (front_holds P init h (length h) (omega arith) legal base step)

pub last_of_more : (o : Option ℕ) (xs : List ℕ) (v : ℕ) → last_or o (xs ++ v ∷ []) ≡ Some v
last_of_more o [] v = refl
last_of_more o (x ∷ xs) v = last_of_more (Some x) xs v
