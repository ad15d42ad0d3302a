use Rattle.std.proofs.Common.{All, take}
use Rattle.lay_document_cells.specs.TextEdits.{IsTextEdit}
use Rattle.lay_document_cells.proofs.document_table.are_texts.Given as goal

abbrev pub invariant-loop-edit : goal.invariant-loop-edit
invariant-loop-edit l = All IsTextEdit (take l.edit-index l.edits)
