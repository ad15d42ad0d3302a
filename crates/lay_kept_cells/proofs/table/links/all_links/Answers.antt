use Rattle.lay_contexts.specs.FormattingContexts.{formatting_context_at}
use Rattle.lay_kept_cells.proofs.Cited.{one_more_of}
use Rattle.lay_context.specs.DocumentLayout.{flow_number}
use Rattle.lay_cell_work.specs.CellColumns.{link_to}
use Rattle.lay_kept_cells.proofs.table.links.all_links.Goals as goal

pub loop-k-preserved : goal.loop-k-preserved
loop-k-preserved c =
    let all = c.args.all.now in
    let pushed = (c.in_ok-push.ensures {u = tt}).items in
    let within = rw (c.inner-count.ensures, c.at.ensures.context) at c.loop-k-test.true in
    rw pushed (one_more_of (link_to all c.args.first) (flow_number all) (formatting_context_at all c.args.i).inner c.loop-k.k c.loop-k.links.items c.link_at.result within c.loop-k.invariant c.link_at.ensures)
