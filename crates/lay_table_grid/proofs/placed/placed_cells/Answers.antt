use Rattle.std.proofs.Common.{length, ◌∙◌, ap, sym}
use Rattle.std.proofs.lemmas.List.{length-map}
use Rattle.lay_grid.specs.Areas.{areas_from}
use Rattle.lay_table_grid.specs.TableBoxes.{row_spec}
use Rattle.lay_table_grid.proofs.PlacedCells.{all_cover, as_many_cells}
use Rattle.lay_table_grid.proofs.placed.placed_cells.Goals as goal

pub joined-requires : goal.joined-requires
joined-requires c =
    let a = c.in_ok-cells.ensures.areas in
    let s = c.deref-3.ensures.value in
    let e = as_many_cells c.args.boxes.now c.args.rows.now c.in_ok-places.places.items c.in_ok-specs.specs.items c.in_ok-cells.cells.items
    c.in_ok-places.ensures c.in_ok-specs.ensures.specs (a ∙ ap (areas_from 0) s) in
    ap length c.deref-4.ensures.value ∙ e ∙ sym (ap length c.deref-5.ensures.value)

pub returns-clause-cover : goal.returns-clause-cover
returns-clause-cover c =
    let a = c.in_ok-cells.ensures.areas in
    let s = c.deref-3.ensures.value in
    let many = ap length c.in_ok-specs.ensures.specs ∙ length-map c.args.rows.now (row_spec c.args.boxes.now) in
    all_cover (length c.args.rows.now) c.in_ok-specs.specs.items c.in_ok-cells.cells.items c.in_ok-placed.placed.items
    c.in_ok-specs.ensures.rows c.in_ok-specs.ensures.columns many (a ∙ ap (areas_from 0) s)
    (c.in_ok-placed.ensures.cells ∙ c.deref-5.ensures.value)
