use Rattle.std.proofs.Common.{◌+◌, ◌∙◌, ℕ, List, length, ap, sym, subst, arith}
use Rattle.lay_contexts.specs.Contexts.{AreContexts}
use Rattle.lay_contexts.specs.FormattingContexts.{FormattingContext, formatting_context_at}
use Rattle.lay_contexts.specs.FormattingContextList.{first_number}
use Rattle.lay_context.specs.declared.task.Phase.{Phase}
use Rattle.lay_context.specs.declared.task.Phase.TheVariants as phase
use Rattle.lay_context.specs.Local.{input_of}
use Rattle.lay_context.specs.Settling.{IsReady}
use Rattle.lay_cell_work.specs.CellColumns.{links_of}
use Rattle.lay_cell_work.specs.PresentInputs.{root_input, root_input_as, spot_in}
use Rattle.lay_kept_cells.specs.Table.TableCells.{workings_in}
use Rattle.lay_kept_cells.proofs.TableLemmas.RootFlags.{inner_flag, root_within}
use Rattle.lay_kept_cells.proofs.TableLemmas.RootParts.{own_asks, own_where_sized}
use Rattle.lay_kept_cells.proofs.table.root_inputs.root_input.Goals as goal

pub overflow_add-task : goal.overflow_add-task
overflow_add-task c =
    let t = c.args.values.now.table.now in
    let are = subst AreContexts c.contexts.ensures c.len.ensures.are in
    let low = root_within t.contexts t.formatting_contexts are c.formatting_contexts-all.ensures.are c.args.cell.context c.requires.within c.args.r c.requires.root in
    let same = ap length c.formatting_contexts-all.ensures.contexts in
    omega (arith, low, same, c.first_number-first.ensures, c.len-2.ensures.count, c.len-2.ensures.few)

pub inner_size_input-requires-clause-within : goal.inner_size_input-requires-clause-within
inner_size_input-requires-clause-within c =
    let t = c.args.values.now.table.now in
    let are = subst AreContexts c.contexts.ensures c.len.ensures.are in
    let low = root_within t.contexts t.formatting_contexts are c.formatting_contexts-all.ensures.are c.args.cell.context c.requires.within c.args.r c.requires.root in
    omega (arith, low, c.first_number-first.ensures)

pub inner_size_input-requires-clause-anonymous : goal.inner_size_input-requires-clause-anonymous
inner_size_input-requires-clause-anonymous c =
    let t = c.args.values.now.table.now in
    let are = subst AreContexts c.contexts.ensures c.len.ensures.are in
    let sized = c.is_inner_size.ensures.0 c.if-is_inner_size.true in
    ap (λ (f : ℕ). (formatting_context_at t.formatting_contexts (f + c.args.r)).anonymous) c.first_number-first.ensures
    ∙ inner_flag t.contexts t.formatting_contexts are c.formatting_contexts-all.ensures.are c.args.cell.context c.requires.within c.args.r c.requires.root sized.1

pub returns-then-is_inner_size : goal.returns-then-is_inner_size
returns-then-is_inner_size c =
    let t = c.args.values.now.table.now in
    let w = workings_in t c.args.values.now.cells.now.rows in
    let first = c.first_number-first.ensures in
    let sized = c.is_inner_size.ensures.0 c.if-is_inner_size.true in
    c.in_ok-sized.ensures {u = tt} c.args.medium.now
    ∙ ap (λ (f : ℕ). root_input c.args.medium.now t.formatting_contexts w f (f + c.args.r) phase.Size) first
    ∙ ap (λ (p : Phase). root_input c.args.medium.now t.formatting_contexts w (first_number t.contexts c.args.cell.context) (first_number t.contexts c.args.cell.context + c.args.r) p) (sym sized.0)

pub task_input-requires : goal.task_input-requires
task_input-requires c =
    let t = c.args.values.now.table.now in
    let own = own_where_sized c.args.cell.phase c.args.r c.is_inner_size.result c.is_inner_size.ensures c.if-is_inner_size.false in
    subst (λ (f : ℕ). IsReady t.formatting_contexts (workings_in t c.args.values.now.cells.now.rows) (record { context = f + c.args.r; phase = c.args.cell.phase }))
    (sym c.first_number-first.ensures) (c.requires.needs c.args.r c.requires.root own)

pub linked_input-requires-clause-within : goal.linked_input-requires-clause-within
linked_input-requires-clause-within c =
    let t = c.args.values.now.table.now in
    let are = subst AreContexts c.contexts.ensures c.len.ensures.are in
    let low = root_within t.contexts t.formatting_contexts are c.formatting_contexts-all.ensures.are c.args.cell.context c.requires.within c.args.r c.requires.root in
    let same = ap length c.formatting_contexts-all.ensures.contexts in
    omega (arith, low, same, c.first_number-first.ensures)

pub linked_input-requires-clause-own : goal.linked_input-requires-clause-own
linked_input-requires-clause-own c asks =
    let t = c.args.values.now.table.now in
    let w = workings_in t c.args.values.now.cells.now.rows in
    let are = subst AreContexts c.contexts.ensures c.len.ensures.are in
    let first = c.first_number-first.ensures in
    let own = own_where_sized c.args.cell.phase c.args.r c.is_inner_size.result c.is_inner_size.ensures c.if-is_inner_size.false in
    let given = c.in_ok-given.ensures {u = tt} ∙ ap (λ (f : ℕ). input_of c.args.medium.now t.formatting_contexts w (record { context = f + c.args.r; phase = c.args.cell.phase })) first in
    ap (λ (all : List FormattingContext). (formatting_context_at all (c.first_number-first.result + c.args.r)).anonymous) c.formatting_contexts-all.ensures.contexts
    ∙ ap (λ (f : ℕ). (formatting_context_at t.formatting_contexts (f + c.args.r)).anonymous) first
    ∙ own_asks c.args.medium.now t.contexts t.formatting_contexts are c.formatting_contexts-all.ensures.are w c.args.cell.context c.requires.within c.args.cell.phase c.args.r c.in_ok-given.given own given asks

pub returns : goal.returns
returns c =
    let t = c.args.values.now.table.now in
    let w = workings_in t c.args.values.now.cells.now.rows in
    let f = c.first_number-first.result in
    let i = f + c.args.r in
    c.in_ok-linked.ensures {u = tt}
    ∙ ap (λ (all : List FormattingContext). root_input_as (links_of all f i) (spot_in all f i) c.in_ok-given.given) c.formatting_contexts-all.ensures.contexts
    ∙ ap (root_input_as (links_of t.formatting_contexts f i) (spot_in t.formatting_contexts f i)) (c.in_ok-given.ensures {u = tt})
    ∙ ap (λ (x : ℕ). root_input c.args.medium.now t.formatting_contexts w x (x + c.args.r) c.args.cell.phase) c.first_number-first.ensures
