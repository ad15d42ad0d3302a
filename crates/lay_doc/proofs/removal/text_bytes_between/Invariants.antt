use Rattle.std.proofs.Common.{◌≡◌, ◌+◌}
use Rattle.std.specs.List.{remove_range}
use Rattle.lay_doc.specs.Document.{text_size}
use Rattle.lay_doc.proofs.removal.text_bytes_between.Given as goal

abbrev pub invariant-loop-k : goal.invariant-loop-k
invariant-loop-k l = l.bytes + text_size (remove_range l.nodes l.from l.k) ≡ text_size l.nodes
