-- What follows of the definitions of a list of edits: its first fault is the only one, a list of one edit is that edit, and two lists
-- one behind the other are as their edits in one list.
use Rattle.std.specs.Prelude.{ℕ, ◌≡◌, ◌+◌, ◌<◌, ◌↔◌, List, [], ◌∷◌, ◌++◌, length, Option, Some, None, option_map}
use Rattle.std.specs.List.{All}
use Rattle.lay_doc.specs.declared.edit.Edit.{Edit}
use Rattle.lay_doc.specs.declared.edit.EditFault.{EditFault}
use Rattle.lay_doc.specs.Document.{Document, IsDocument}
use Rattle.lay_doc.specs.Edits.{fault, after}
use Rattle.lay_doc.specs.Laws.{PutsNode}
use Rattle.lay_history.specs.Edits.EditLists.{IsFirst, after_all, behind, first}

-- the least place with a fault is what `first` says, and nothing else
abbrev pub OneFirst : Type 0
OneFirst = (d : Document) (edits : List Edit) (o : Option (ℕ × EditFault)) → IsFirst d edits o ↔ (o ≡ first d edits)

-- that place is one of the list
abbrev pub FirstIsWithin : Type 0
FirstIsWithin = (d : Document) (edits : List Edit) (place : ℕ) (f : EditFault) → first d edits ≡ Some (place, f) → place < length edits

-- a list of one edit is that edit
abbrev pub OneEditAlone : Type 0
OneEditAlone = (d : Document) (e : Edit)
    → (first d (e ∷ []) ≡ option_map (λ f. (0, f)) (fault d e)) × (after_all d (e ∷ []) ≡ after d e)

-- the fault that comes first: one of the first list, or else one of the second, whose places begin behind the first list
abbrev pub first_of_two : ℕ → Option (ℕ × EditFault) → Option (ℕ × EditFault) → Option (ℕ × EditFault)
first_of_two count None second = behind count second
first_of_two count (Some p) second = Some p

-- a list of two lists is one after the other
abbrev pub TwoLists : Type 0
TwoLists = (d : Document) (xs ys : List Edit)
    → (first d (xs ++ ys) ≡ first_of_two (length xs) (first d xs) (first (after_all d xs) ys))
    × (after_all d (xs ++ ys) ≡ after_all (after_all d xs) ys)

-- a list without a fault leaves a document
abbrev pub ListsLeaveDocuments : Type 0
ListsLeaveDocuments = (d : Document) (edits : List Edit) → IsDocument d → All PutsNode edits
    → first d edits ≡ None → IsDocument (after_all d edits)
