-- Lists of one edit, and lists of two lists; what a list without a fault leaves.
use Rattle.std.proofs.Common.{◌≡◌, ℕ, suc, ◌+◌, List, [], ◌∷◌, ◌++◌, length, Option, Some, None, option_map, refl, ap, ◌∙◌, arith}
use Rattle.std.proofs.lemmas.List.Sums.{fold-append}
use Rattle.lay_doc.specs.declared.edit.Edit.{Edit}
use Rattle.lay_doc.specs.declared.edit.EditFault.{EditFault}
use Rattle.lay_doc.specs.Document.{Document}
use Rattle.lay_doc.specs.Edits.{fault, after}
use Rattle.lay_doc.proofs.EditedDocuments.{edits_leave_documents}
use Rattle.lay_history.specs.Edits.EditLists.{after_all, behind, fault_at, first, first_or}
use Rattle.lay_history.specs.Edits.Laws.{ListsLeaveDocuments, OneEditAlone, TwoLists, first_of_two}

pub one_edit_alone : OneEditAlone
one_edit_alone d e = (alone (fault d e), refl)
  where
    alone : (o : Option EditFault) → first_or o None ≡ option_map (λ f. (0, f)) o
    alone None = refl
    alone (Some f) = refl

-- one edit alone that has no fault
pub alone_is_first : (d : Document) (es : List Edit) → length es ≡ 1 → fault_at d es 0 ≡ None → first d es ≡ None
alone_is_first d [] one none = refl
alone_is_first d (e ∷ []) one none = alone (fault d e) none
  where
    alone : (o : Option EditFault) → o ≡ None → first_or o None ≡ None
    alone None is = refl
    alone (Some f) is = absurd cc
alone_is_first d (e ∷ f ∷ es) one none = absurd (omega (arith, one))

-- the first fault of one more edit before two lists
first_or_two : (o : Option EditFault) (count : ℕ) (a b : Option (ℕ × EditFault)) → first_or o (first_of_two count a b) ≡ first_of_two (suc count) (first_or o a) b
first_or_two (Some f) count a b = refl
first_or_two None count (Some (p, f)) b = refl
first_or_two None count None None = refl
first_or_two None count None (Some (p, f)) = ap (λ n. Some (n, f)) (omega arith)

none_before : (o : Option (ℕ × EditFault)) → o ≡ behind 0 o
none_before None = refl
none_before (Some (p, f)) = ap (λ n. Some (n, f)) (omega arith)

pub first_two : (d : Document) (xs ys : List Edit) → first d (xs ++ ys) ≡ first_of_two (length xs) (first d xs) (first (after_all d xs) ys)
first_two d [] ys = none_before (first d ys)
first_two d (e ∷ es) ys =
    ap (first_or (fault d e)) (first_two (after d e) es ys)
    ∙ first_or_two (fault d e) (length es) (first (after d e) es) (first (after_all (after d e) es) ys)

pub two_lists : TwoLists
two_lists d xs ys = (first_two d xs ys, fold-append after d xs ys)

-- an edit before others, where none of them has a fault
pub none_first : (d : Document) (e : Edit) (es : List Edit) → first d (e ∷ es) ≡ None → (fault d e ≡ None) × (first (after d e) es ≡ None)
none_first d e es is = by_fault (fault d e) (first (after d e) es) is
  where
    by_fault : (o : Option EditFault) (rest : Option (ℕ × EditFault)) → first_or o rest ≡ None → (o ≡ None) × (rest ≡ None)
    by_fault None None e = (refl, refl)
    by_fault None (Some (p, f)) e = absurd cc
    by_fault (Some f) rest e = absurd cc

pub lists_leave_documents : ListsLeaveDocuments
lists_leave_documents d [] is puts none = is
lists_leave_documents d (e ∷ es) is puts none =
    let both = none_first d e es none in
    lists_leave_documents (after d e) es (edits_leave_documents d e is (puts 0 e (omega arith)) both.0)
    (λ k x lt. puts (suc k) x (omega (arith, lt))) both.1
