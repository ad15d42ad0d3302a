use Rattle.std.proofs.Common.{◌≡◌, ◌++◌, length}
use Rattle.std.specs.Vec.Iter.{into_iter_items, into_iter_len}
use Rattle.lay_document_cells.proofs.Batching.{IsHanded}
use Rattle.lay_document_cells.proofs.document_cells.DocumentCells.finish_all.Given as goal

abbrev pub invariant-loop-outcome : goal.invariant-loop-outcome
invariant-loop-outcome l =
    (l.yielded ++ into_iter_items l.outcome-iterator ≡ into_iter_items l.initial.outcome-iterator)
    × (into_iter_len l.outcome-iterator ≡ length (into_iter_items l.outcome-iterator)) × IsHanded l.fn.self l.yielded l.tally l.self
