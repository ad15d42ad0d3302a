use Rattle.std.proofs.Common.{◌∙◌, sym, subst}
use Rattle.lay_contexts.specs.Contexts.{AreContexts}
use Rattle.lay_cell_work.specs.CellInputFits.{CellInputFits}
use Rattle.lay_kept_cells.specs.Table.TableCells.{workings_in}
use Rattle.lay_kept_cells.proofs.TableLemmas.GivenNow.{same_input}
use Rattle.lay_kept_cells.proofs.table.cell_input_at.cell_input.Goals as goal

pub new-requires : goal.new-requires
new-requires c =
    let t = c.args.values.now.table.now in
    let rows = c.args.values.now.cells.now.rows in
    let are = subst AreContexts c.contexts.ensures c.len.ensures.are in
    subst CellInputFits (sym (same_input c.args.medium.now t rows c.args.cell c.key_of-key.result c.in_ok-roots.roots.items c.key_of-key.ensures (c.in_ok-roots.ensures {u = tt})))
    (c.present_inputs_fit.ensures c.args.medium.now t.contexts t.formatting_contexts (workings_in t rows) c.args.cell.context c.args.cell.phase are c.formatting_contexts.ensures.are c.requires.within)

pub returns : goal.returns
returns c =
    c.new.ensures
    ∙ same_input c.args.medium.now c.args.values.now.table.now c.args.values.now.cells.now.rows c.args.cell c.key_of-key.result c.in_ok-roots.roots.items c.key_of-key.ensures (c.in_ok-roots.ensures {u = tt})
