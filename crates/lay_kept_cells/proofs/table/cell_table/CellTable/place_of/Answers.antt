use Rattle.std.proofs.Common.{◌≡◌, ◌∙◌, get_or, slice_get, ap, subst, arith}
use Rattle.std.proofs.lemmas.List.{get_or_read}
use Rattle.lay_shape.specs.Shapes.{cells_of}
use Rattle.lay_kept_cells.specs.declared.table.cell_places.CellPlaces.{CellPlaces}
use Rattle.lay_kept_cells.specs.declared.table.cell_table.SharedColumns.{SharedColumns}
use Rattle.lay_kept_cells.specs.Table.CellPlaces.{no_places, place_in, places_at}
use Rattle.lay_kept_cells.specs.Table.CellTables.{AreTableColumns, TableColumns}
use Rattle.lay_shape.specs.Touched.ContextFlags.{ContextLists}
use Rattle.lay_kept_cells.proofs.table.cell_table.CellTable.place_of.Goals as goal

pub returns : goal.returns
returns c =
    let columns : TableColumns = record {
      measured = c.self.inside.measured.items;
      roots = c.self.inside.shared.value.roots.roots.items;
      firsts = c.self.inside.shared.value.roots.firsts.items;
      cells = c.self.inside.shared.value.cells.items;
      places = c.self.inside.shared.value.places.items;
      no_widths = c.self.inside.shared.value.no_widths;
      no_sizes = c.self.inside.shared.value.no_sizes;
      no_place = c.self.inside.shared.value.no_place;
    } in
    let are = subst (λ (t : ContextLists). AreTableColumns t columns) c.self.view_is c.self.invariant in
    let count = are.places.count in
    let there = c.index.ensures ∙ ap (λ (s : SharedColumns). get_or s.places.items c.args.context c.index.result.now) c.deref.ensures in
    let read : c.index.result.now ≡ places_at c.self.inside.shared.value.places.items c.args.context =
    get_or_read c.self.inside.shared.value.places.items c.args.context c.index.result.now (omega (arith, count, c.requires)) there no_places in
    ap (slice_get (cells_of c.args.self.now.contexts)) (c.place_in.ensures ∙ ap (λ (p : CellPlaces). place_in p c.args.phase) read) ∙ are.places.each c.args.context c.args.phase c.requires
