use Rattle.std.proofs.Common.{◌≡◌, length, arith}
use Rattle.lay_table_sizes.proofs.ColumnSteps.{all_columns, columns_step}
use Rattle.lay_table_sizes.proofs.preferred_widths.column_widths.Goals as goal

pub loop-i-preserved : goal.loop-i-preserved
loop-i-preserved c =
    let ok = c.in_ok-push.ensures {u = tt} in
    let is = rw (c.own_at.ensures, c.deref.ensures.value, c.widths_at.ensures, c.deref-in-loop-i.ensures.value) at c.own_or.ensures in
    rw ok.items (columns_step c.in_ok-owns.owns.items c.in_ok-contents.contents.items c.loop-i.i c.loop-i.widths.items c.own_or.result c.loop-i.invariant is)

pub returns : goal.returns
returns c =
    let counted = c.len-i-end.ensures in
    let within = c.loop-i.auto.i-end in
    let over = c.loop-i-test.false in
    let done : c.loop-i.i ≡ length c.in_ok-contents.contents.items = omega (arith, counted, within, over) in
    let are = rw c.in_ok-columns.ensures.value at c.in_ok-owns.ensures.own in
    all_columns c.args.boxes.now c.args.inner.now c.args.grid.now c.in_ok-owns.owns.items c.in_ok-contents.contents.items c.loop-i.widths.items are
    c.in_ok-contents.ensures.count c.in_ok-contents.ensures.each (rw done at c.loop-i.invariant)
