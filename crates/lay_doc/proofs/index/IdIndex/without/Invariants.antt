use Rattle.std.proofs.Common.{take}
use Rattle.std.specs.List.{remove_range}
use Rattle.lay_doc.specs.Document.{ids_of}
use Rattle.lay_doc.specs.Index.{IsIndexOf}
use Rattle.lay_doc.proofs.index.IdIndex.without.Given as goal

abbrev pub invariant-loop-k : goal.invariant-loop-k
invariant-loop-k l = IsIndexOf l.index (take l.k (remove_range (ids_of l.nodes) l.from l.to))
