use Rattle.std.proofs.Common.{◌≡◌, ◌+◌, ◌∙◌, ℕ, map, ap, arith}
use Rattle.std.specs.List.{range_with_len}
use Rattle.lay_contexts.specs.FormattingContextList.{first_number}
use Rattle.lay_cell_work.specs.CellInputs.{RootInput}
use Rattle.lay_cell_work.specs.PresentInputs.{root_count, root_input}
use Rattle.lay_kept_cells.specs.Table.TableCells.{workings_in}
use Rattle.lay_kept_cells.proofs.TableLemmas.RootParts.{one_more_root}
use Rattle.lay_kept_cells.proofs.table.root_inputs.all_roots.Goals as goal

pub loop-r-preserved : goal.loop-r-preserved
loop-r-preserved c =
    let t = c.args.values.now.table.now in
    let first = first_number t.contexts c.args.cell.context in
    let part : ℕ → RootInput = λ (r : ℕ). root_input c.args.medium.now t.formatting_contexts (workings_in t c.args.values.now.cells.now.rows) first (first + r) c.args.cell.phase in
    rw ((c.in_ok-push.ensures {u = tt}).items)
    (one_more_root part c.loop-r.r c.loop-r.roots.items c.in_ok-root_input.field-0 c.loop-r.invariant (c.in_ok-root_input.ensures {u = tt}))

pub returns : goal.returns
returns c =
    let t = c.args.values.now.table.now in
    let first = first_number t.contexts c.args.cell.context in
    let part : ℕ → RootInput = λ (r : ℕ). root_input c.args.medium.now t.formatting_contexts (workings_in t c.args.values.now.cells.now.rows) first (first + r) c.args.cell.phase in
    let count : c.loop-r.r ≡ root_count t.contexts c.args.cell.context = omega (arith, c.root_count-count.ensures, c.loop-r-test.false, c.loop-r.auto.r-end) in
    c.loop-r.invariant ∙ ap (λ (n : ℕ). map part (range_with_len 0 n)) count
