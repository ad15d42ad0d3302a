use Rattle.std.proofs.Common.{rules, ◌≡◌, ◌∙◌}
use Rattle.std.specs.Arc.{arc_value}
use Rattle.lay_cells.specs.Looks.{Looks}
use Rattle.lay_cells.specs.declared.answers.Look.TheVariants as look
use Rattle.lay_cell_work.specs.CellLaws.SoundCells.{CellRow}
use Rattle.lay_kept_cells.proofs.TableLemmas.GivenNow.{given_at, given_of, has_needs, place_there}
use Rattle.lay_kept_cells.proofs.table.cell_input_at.input_at.Goals as goal

pub cell_at-cell-requires : goal.cell_at-cell-requires
cell_at-cell-requires c =
    place_there c.args.medium.now c.args.table.now c.args.cells.now c.requires.cells c.args.place (λ (r : CellRow). Looks c.args.cells.now.rows r.key look.Ready) c.requires.ready

pub cell_input-requires-clause-needs : goal.cell_input-requires-clause-needs
cell_input-requires-clause-needs c =
    has_needs c.args.medium.now c.args.table.now c.args.cells.now c.requires.cells c.args.place c.cell_at-cell.result c.cell_at-cell.ensures.cell c.cell_at-cell.ensures.within c.ready_to_input.ensures c.requires.ready

pub returns-clause-value : goal.returns-clause-value
returns-clause-value c =
    let arc : arc_value c.in_ok-shared.shared ≡ c.in_ok-input.input = search rules in
    given_at c.args.medium.now c.args.table.now c.args.cells.now c.requires.cells c.args.place c.cell_at-cell.result c.cell_at-cell.ensures.cell c.cell_at-cell.ensures.within (arc_value c.in_ok-shared.shared) (arc ∙ c.in_ok-input.ensures {u = tt})

pub returns-clause-of : goal.returns-clause-of
returns-clause-of c =
    let arc : arc_value c.in_ok-shared.shared ≡ c.in_ok-input.input = search rules in
    given_of c.args.medium.now c.args.table.now c.args.cells.now c.requires.cells c.args.place c.cell_at-cell.result c.cell_at-cell.ensures.cell c.cell_at-cell.ensures.within
    (λ (r : CellRow). Looks c.args.cells.now.rows r.key look.Ready) c.requires.ready (arc_value c.in_ok-shared.shared) (arc ∙ c.in_ok-input.ensures {u = tt})
