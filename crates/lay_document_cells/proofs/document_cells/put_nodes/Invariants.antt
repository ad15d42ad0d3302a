use Rattle.std.proofs.Common.{All, take}
use Rattle.lay_doc.specs.Laws.{PutsNode}
use Rattle.lay_document_cells.proofs.document_cells.put_nodes.Given as goal

abbrev pub invariant-loop-edit : goal.invariant-loop-edit
invariant-loop-edit l = All PutsNode (take l.edit-index l.edits)
