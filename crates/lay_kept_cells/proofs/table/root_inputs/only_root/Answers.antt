use Rattle.std.proofs.Common.{◌<◌, ◌∙◌, ℕ, ap, sym, subst, arith}
use Rattle.lay_contexts.specs.Contexts.{AreContexts}
use Rattle.lay_context.specs.Local.{input_of}
use Rattle.lay_context.specs.Settling.{IsReady}
use Rattle.lay_cell_work.specs.PresentInputs.{root_count}
use Rattle.lay_kept_cells.specs.Table.TableCells.{workings_in}
use Rattle.lay_kept_cells.proofs.TableLemmas.RootParts.{only_roots, own_needs}
use Rattle.lay_kept_cells.proofs.table.root_inputs.only_root.Goals as goal

pub task_input-requires : goal.task_input-requires
task_input-requires c =
    let t = c.args.values.now.table.now in
    let some : 0 < root_count t.contexts c.args.cell.context = omega (arith, c.requires.only) in
    subst (λ (f : ℕ). IsReady t.formatting_contexts (workings_in t c.args.values.now.cells.now.rows) (record { context = f; phase = c.args.cell.phase }))
    (sym c.first_number-first.ensures) (own_needs t c.args.values.now.cells.now.rows c.args.cell c.requires.needs some)

pub returns : goal.returns
returns c =
    let t = c.args.values.now.table.now in
    let w = workings_in t c.args.values.now.cells.now.rows in
    let are = subst AreContexts c.contexts.ensures c.len.ensures.are in
    let given = c.in_ok-given.ensures {u = tt} ∙ ap (λ (f : ℕ). input_of c.args.medium.now t.formatting_contexts w (record { context = f; phase = c.args.cell.phase })) c.first_number-first.ensures in
    rw ((c.in_ok-push.ensures {u = tt}).items, (c.in_ok-roots.ensures {u = tt}).items, c.unlinked_root-root.ensures)
    (only_roots c.args.medium.now t.contexts t.formatting_contexts are c.formatting_contexts.ensures.are w c.args.cell.context c.requires.within c.args.cell.phase c.in_ok-given.given c.requires.only given)
