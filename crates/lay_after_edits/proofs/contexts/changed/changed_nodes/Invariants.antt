use Rattle.std.proofs.Common.{◌≡◌, All, length, take}
use Rattle.lay_doc.specs.Document.{ids_of}
use Rattle.lay_after_edits.proofs.ContextsLemmas.StayingNodes.{IsFlagged}
use Rattle.lay_after_edits.proofs.contexts.changed.changed_nodes.Given as goal

abbrev pub invariant-loop-edit : goal.invariant-loop-edit
invariant-loop-edit l = record {
  count : length l.flags.items ≡ length l.doc.nodes;
  each : All (IsFlagged (ids_of l.doc.nodes) l.flags.items) (take l.edit-index l.edits);
}
