-- An edit that a document takes, with the documents and their computed styles before it and after it.
use Rattle.std.specs.Prelude.{◌≡◌, List, None}
use Rattle.lay_style.specs.declared.style.Style.{Style}
use Rattle.lay_style.specs.ComputedStyle.{HasStyles}
use Rattle.lay_doc.specs.declared.edit.Edit.{Edit}
use Rattle.lay_doc.specs.Document.{Document, declarations_of, parents_of}
use Rattle.lay_doc.specs.Edits.{after, fault}

pub record IsEdited (d : Document) (styles : List Style) (edit : Edit) (e : Document) (others : List Style) : Type 0 where
  pub accepted : fault d edit ≡ None
  pub later : e ≡ after d edit
  pub before : HasStyles (parents_of d.nodes) (declarations_of d.nodes) styles
  pub after : HasStyles (parents_of e.nodes) (declarations_of e.nodes) others
