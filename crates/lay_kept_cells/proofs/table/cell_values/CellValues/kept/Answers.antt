use Rattle.std.proofs.Common.{ap, sym, ◌∙◌}
use Rattle.lay_cell_work.specs.KeptValues.{value_or_none}
use Rattle.lay_kept_cells.proofs.TableLemmas.KeptReads.{kept_there}
use Rattle.lay_kept_cells.proofs.table.cell_values.CellValues.kept.Goals as goal

pub returns-in-Some : goal.returns-in-Some
returns-in-Some c =
    let at = c.in-Some.ensures {u = tt} in
    c.value_in.ensures ∙ ap (value_or_none c.args.phase) at.2
    ∙ sym (kept_there c.args.self.now.cells.now.rows c.args.self.now.table.now.contexts c.args.self.now.shaped c.sound.ensures.shaped c.args.context c.args.phase c.place_of-place.result at.0 c.place_of-place.ensures at.1)

pub returns-in-None : goal.returns-in-None
returns-in-None c =
    let at = c.in-None.ensures {u = tt} in
    ap (value_or_none c.args.phase) at.2
    ∙ sym (kept_there c.args.self.now.cells.now.rows c.args.self.now.table.now.contexts c.args.self.now.shaped c.sound.ensures.shaped c.args.context c.args.phase c.place_of-place.result at.0 c.place_of-place.ensures at.1)
