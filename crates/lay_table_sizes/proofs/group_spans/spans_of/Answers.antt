use Rattle.std.proofs.Common.{None}
use Rattle.lay_table_sizes.specs.GroupWidths.{spans_from}
use Rattle.lay_table_sizes.proofs.BoundSteps.{span_step}
use Rattle.lay_table_sizes.proofs.group_spans.spans_of.Goals as goal

pub loop-k-preserved : goal.loop-k-preserved
loop-k-preserved c =
    let group = c.group_at.result in
    let pushed = c.in_ok-push_group.ensures {u = tt} group c.group_at.ensures in
    span_step c.args.boxes.now c.loop-k.k c.loop-k.before c.args.groups.now group c.loop-k.spans.items c.push_group.new.spans.items
    (spans_from c.args.boxes.now 0 None c.args.groups.now) c.group_at.ensures c.loop-k.invariant pushed
