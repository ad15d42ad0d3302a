use Rattle.std.proofs.Common.{List, ℕ, [], length}
use Rattle.lay_doc.specs.Document.{Document}
use Rattle.lay_audit.specs.Readings.{IsRead, IsSteady, basis_of}
use Rattle.lay_audit.proofs.auditing.read_entries.Given as goal

abbrev pub invariant-loop-number : goal.invariant-loop-number
invariant-loop-number l = record {
  steady : IsSteady l.scripts l.reading;
  read : (init : Document) (text : List ℕ) → IsRead (basis_of init l.face.value l.scripts) text l.fn.reading [] → IsRead (basis_of init l.face.value l.scripts) text l.reading [];
}

abbrev pub decreases-loop-number : goal.decreases-loop-number
decreases-loop-number l = length l.reading.rest
