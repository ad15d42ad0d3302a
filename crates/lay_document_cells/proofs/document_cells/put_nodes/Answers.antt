use Rattle.std.proofs.Common.{subst, sym}
use Rattle.std.proofs.lemmas.List.{take_all}
use Rattle.std.proofs.lemmas.List.Elements.{All-more, All-same}
use Rattle.lay_doc.specs.Laws.{PutsNode}
use Rattle.lay_document_cells.proofs.document_cells.put_nodes.Goals as goal

pub loop-edit-preserved : goal.loop-edit-preserved
loop-edit-preserved c =
    All-more PutsNode c.args.edits.now c.loop-edit.edit-index c.edit-item.result c.loop-edit-test.true c.loop-edit.invariant
    (subst PutsNode c.edit-item.is c.puts_node.ensures)

pub returns : goal.returns
returns c =
    All-same PutsNode c.args.edits.now _ (sym (take_all c.loop-edit.edit-index c.args.edits.now c.loop-edit-test.false)) c.loop-edit.invariant
