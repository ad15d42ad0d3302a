use Rattle.std.proofs.Common.{subst, sym}
use Rattle.std.proofs.lemmas.List.{take_all}
use Rattle.std.proofs.lemmas.List.Elements.{All-more, All-same}
use Rattle.lay_document_cells.specs.TextEdits.{IsTextEdit}
use Rattle.lay_document_cells.proofs.document_table.are_texts.Goals as goal

pub loop-edit-preserved : goal.loop-edit-preserved
loop-edit-preserved c =
    All-more IsTextEdit c.args.edits.now c.loop-edit.edit-index c.edit-item.result c.loop-edit-test.true c.loop-edit.invariant
    (subst IsTextEdit c.edit-item.is (c.is_text_edit.ensures c.if-not-is_text_edit.false))

pub returns : goal.returns
returns c = λ t.
    All-same IsTextEdit c.args.edits.now _ (sym (take_all c.loop-edit.edit-index c.args.edits.now c.loop-edit-test.false)) c.loop-edit.invariant
