use Rattle.std.proofs.Common.{◌+◌, sym, take, drop}
use Rattle.std.specs.List.{flat_map}
use Rattle.lay_frag.specs.Lines.{context_text}
use Rattle.lay_report.proofs.Streams.{at_place, flat_more, flat_split, pushes_failed, pushes_same, pushes_then, writes_same}
use Rattle.lay_report.proofs.pieces.push_contexts.Goals as goal

pub returns-in_err-push_context : goal.returns-in_err-push_context
returns-in_err-push_context g c =
    let k = c.loop-placed.placed-index in
    pushes_same _ _ _ _ _ (flat_split context_text c.args.contexts.now k c.placed-item.result (at_place c.args.contexts.now k c.placed-item.result c.loop-placed-test.true c.placed-item.is))
    (pushes_failed _ _ _ (flat_map context_text (take k c.args.contexts.now)) (context_text c.placed-item.result) (flat_map context_text (drop (k + 1) c.args.contexts.now)) c.in_err-push_context.field-0.0 c.from_residual.result
    c.loop-placed.invariant.written c.loop-placed.invariant.never_falls c.in_err-push_context.ensures c.from_residual.ensures)

pub loop-placed-preserved : goal.loop-placed-preserved
loop-placed-preserved g c =
    let k = c.loop-placed.placed-index in
    let all = pushes_then _ _ _ (flat_map context_text (take k c.args.contexts.now)) (context_text c.placed-item.result) _ c.loop-placed.invariant.written c.loop-placed.invariant.never_falls c.in_ok-push_context.ensures in
    record {
      written = writes_same _ _ _ _ (sym (flat_more context_text c.args.contexts.now k c.placed-item.result (at_place c.args.contexts.now k c.placed-item.result c.loop-placed-test.true c.placed-item.is))) all.ok;
      never_falls = all.never_falls;
    }
