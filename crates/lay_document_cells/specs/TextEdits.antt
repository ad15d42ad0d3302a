-- Edits of texts, which have no declarations.
use Rattle.std.specs.Prelude.{⊤}
use Rattle.lay_doc.specs.declared.edit.Edit.{Edit}
use Rattle.lay_doc.specs.declared.edit.Edit.TheVariants.{SetText}

abbrev pub IsTextEdit : Edit → Type 0
IsTextEdit (SetText node text) = ⊤
IsTextEdit _ = ⊥
