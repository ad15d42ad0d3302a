use Rattle.std.proofs.Common.{rules, ◌≡◌, ◌-◌, slice_index, refl, arith}
use Rattle.lay_kept_cells.proofs.TableLemmas.RootSteps.{made_count, made_low, made_noted}
use Rattle.lay_kept_cells.proofs.table.root_columns.push_root.Goals as goal

pub overflow_sub-context : goal.overflow_sub-context
overflow_sub-context c =
    let some = made_count c.args.contexts.now c.args.all.now c.len-context.ensures.are c.requires.are c.args.columns.now.roots.items c.args.columns.now.firsts.items c.args.i c.requires.before c.requires.within c.push_first.new.firsts.items (c.in_ok-push_first.ensures {u = tt}) in
    omega (arith, some, c.len-context-2.ensures)

pub number_in-requires : goal.number_in-requires
number_in-requires c =
    let some = made_count c.args.contexts.now c.args.all.now c.len-context.ensures.are c.requires.are c.args.columns.now.roots.items c.args.columns.now.firsts.items c.args.i c.requires.before c.requires.within c.push_first.new.firsts.items (c.in_ok-push_first.ensures {u = tt}) in
    omega (arith, some, c.len-context-2.ensures)

pub overflow_sub-root : goal.overflow_sub-root
overflow_sub-root c =
    let first : c.number_in.result ≡ slice_index c.push_first.new.firsts.items (c.len-context-2.result - 1) = search rules in
    made_low c.args.contexts.now c.args.all.now c.len-context.ensures.are c.requires.are c.args.columns.now.roots.items c.args.columns.now.firsts.items c.args.i c.requires.before c.requires.within c.push_first.new.firsts.items (c.in_ok-push_first.ensures {u = tt})
    (c.len-context-2.result - 1) c.number_in.result (omega (arith, c.len-context-2.ensures)) first

pub returns : goal.returns
returns c =
    let first : c.number_in.result ≡ slice_index c.push_first.new.firsts.items (c.len-context-2.result - 1) = search rules in
    rw ((c.in_ok-push.ensures {u = tt}).items)
    (made_noted c.args.contexts.now c.args.all.now c.len-context.ensures.are c.requires.are c.args.columns.now.roots.items c.args.columns.now.firsts.items c.args.i c.requires.before c.requires.within c.push_first.new.firsts.items (c.in_ok-push_first.ensures {u = tt})
    (c.len-context-2.result - 1) c.number_in.result (omega (arith, c.len-context-2.ensures)) first _ refl refl)
