use Rattle.std.proofs.Common.{◌≡◌, drop}
use Rattle.lay_history.specs.Edits.EditLists.{after_all, behind, first}
use Rattle.lay_history.proofs.edits.applying.apply_each.Given as goal

abbrev pub invariant-loop-edit : goal.invariant-loop-edit
invariant-loop-edit l = record {
  place : l.place ≡ l.edit-index;
  first : behind l.place (first l.doc (drop l.edit-index l.edits)) ≡ first l.fn.doc l.edits;
  goes_on : after_all l.doc (drop l.edit-index l.edits) ≡ after_all l.fn.doc l.edits;
}
