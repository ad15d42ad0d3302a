use Rattle.std.proofs.Common.{◌≡◌, length, arith}
use Rattle.lay_kept_cells.proofs.TableLemmas.RootSteps.{all_roots}
use Rattle.lay_kept_cells.proofs.table.root_columns.root_columns.Goals as goal

pub returns : goal.returns
returns c =
    let done : c.loop-i.i ≡ length c.args.all.now = omega (arith, c.len-i-end.ensures.count, c.loop-i-test.false, c.loop-i.auto.i-end) in
    rw ((c.in_ok-push.ensures {u = tt}).items, c.len-3.ensures.count)
    (all_roots c.args.contexts.now c.args.all.now c.len-2.ensures.are c.requires c.loop-i.columns.roots.items c.loop-i.columns.firsts.items c.loop-i.i done c.loop-i.invariant)
