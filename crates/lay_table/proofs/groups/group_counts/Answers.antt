use Rattle.lay_table.proofs.GroupSteps.{are_counts}
use Rattle.lay_table.proofs.groups.group_counts.Goals as goal

pub returns : goal.returns
returns c =
    let body = c.in_ok-body.ensures {u = tt} in
    let within = c.in_ok-rows_within.ensures {u = tt} in
    let sums = c.in_ok-sums_before.ensures {u = tt} in
    let read = c.deref.ensures.value in
    are_counts c.args.boxes.now c.args.rows.now c.outer_groups-outer.result c.header_rows.result c.in_ok-rows_within.field-0.items c.in_ok-body.body.items c.in_ok-sums_before.field-0.items
    c.outer_groups-outer.ensures c.header_rows.ensures within.count within.each body.count body.each (rw read at sums.count) (rw read at sums.each)
