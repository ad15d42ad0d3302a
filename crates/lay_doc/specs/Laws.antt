-- An edit without a fault leaves a document, and the computed styles of a document's nodes are the only ones that meet
-- their definition.
use Rattle.std.specs.Prelude.{ℕ, ◌≡◌, List, None}
use Rattle.lay_style.specs.declared.style.Style.{Style}
use Rattle.lay_style.specs.Values.{Declaration}
use Rattle.lay_style.specs.ComputedStyle.{HasStyles}
use Rattle.lay_doc.specs.declared.edit.Edit.{Edit}
use Rattle.lay_doc.specs.declared.edit.Edit.TheVariants.{Insert}
use Rattle.lay_doc.specs.Document.{Document, IsDocument}
use Rattle.lay_doc.specs.Edits.{fault, after}
use Rattle.lay_doc.specs.NewNodes.{IsNodeForm}
use Rattle.lay_doc.specs.Tree.{IsTree}

abbrev pub OneStyleColumn : Type 0
OneStyleColumn = (parents : List ℕ) (decls : List (List Declaration)) (ss ts : List Style) → IsTree parents
    → HasStyles parents decls ss → HasStyles parents decls ts → ss ≡ ts

-- a node that an edit puts in is what one of its kind may be
abbrev pub PutsNode : Edit → Type 0
PutsNode (Insert parent index new) = IsNodeForm new.kind new.decls new.text
PutsNode _ = Unit {0}

abbrev pub EditsLeaveDocuments : Type 0
EditsLeaveDocuments = (d : Document) (e : Edit) → IsDocument d → PutsNode e → fault d e ≡ None → IsDocument (after d e)
