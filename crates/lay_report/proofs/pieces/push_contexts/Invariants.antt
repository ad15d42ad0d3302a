use Rattle.std.proofs.Common.{◌≤◌, take}
use Rattle.lay_frag.specs.Lines.{tree_text}
use Rattle.lay_report.specs.Writing.{Writes}
use Rattle.lay_report.proofs.pieces.push_contexts.Given as goal

abbrev pub invariant-loop-placed : goal.invariant-loop-placed
invariant-loop-placed g l = record {
  written : Writes (record { taken = g.K.Sink.taken l.fn.sink; faults = g.K.Sink.faults l.fn.sink; held = l.fn.buffer.items })
      (record { taken = g.K.Sink.taken l.sink; faults = g.K.Sink.faults l.sink; held = l.buffer.items }) (tree_text (take l.placed-index l.contexts));
  never_falls : g.K.Sink.faults l.fn.sink ≤ g.K.Sink.faults l.sink;
}
