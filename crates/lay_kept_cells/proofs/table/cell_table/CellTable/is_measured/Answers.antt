use Rattle.std.proofs.Common.{◌∙◌, false, ap, subst, arith}
use Rattle.std.proofs.lemmas.List.{get_or_read}
use Rattle.lay_flow.specs.Blocks.Children.{flag_at}
use Rattle.lay_contexts.specs.FormattingContextList.{first_number}
use Rattle.lay_kept_cells.specs.Table.CellTables.{AreTableColumns, TableColumns}
use Rattle.lay_shape.specs.Touched.ContextFlags.{ContextLists}
use Rattle.lay_kept_cells.proofs.TableLemmas.RootSteps.{first_there}
use Rattle.lay_kept_cells.proofs.table.cell_table.CellTable.is_measured.Goals as goal

pub index-requires : goal.index-requires
index-requires c =
    let columns : TableColumns = record {
      measured = c.self.inside.measured.items;
      roots = c.self.inside.shared.value.roots.roots.items;
      firsts = c.self.inside.shared.value.roots.firsts.items;
      cells = c.self.inside.shared.value.cells.items;
      places = c.self.inside.shared.value.places.items;
      no_widths = c.self.inside.shared.value.no_widths;
      no_sizes = c.self.inside.shared.value.no_sizes;
      no_place = c.self.inside.shared.value.no_place;
    } in
    let are = subst (λ (t : ContextLists). AreTableColumns t columns) c.self.view_is c.self.invariant in
    let low = first_there c.args.self.now.contexts c.args.self.now.formatting_contexts are.are_contexts are.are_formatting_contexts c.args.c c.requires in
    let count = are.measured.count in
    omega (arith, low, count, c.first_number-number.ensures)

pub returns : goal.returns
returns c =
    let columns : TableColumns = record {
      measured = c.self.inside.measured.items;
      roots = c.self.inside.shared.value.roots.roots.items;
      firsts = c.self.inside.shared.value.roots.firsts.items;
      cells = c.self.inside.shared.value.cells.items;
      places = c.self.inside.shared.value.places.items;
      no_widths = c.self.inside.shared.value.no_widths;
      no_sizes = c.self.inside.shared.value.no_sizes;
      no_place = c.self.inside.shared.value.no_place;
    } in
    let are = subst (λ (t : ContextLists). AreTableColumns t columns) c.self.view_is c.self.invariant in
    let low = first_there c.args.self.now.contexts c.args.self.now.formatting_contexts are.are_contexts are.are_formatting_contexts c.args.c c.requires in
    let count = are.measured.count in
    get_or_read c.self.inside.measured.items c.first_number-number.result c.index.result.now (omega (arith, low, count, c.first_number-number.ensures)) c.index.ensures false
    ∙ ap (flag_at c.self.inside.measured.items) c.first_number-number.ensures ∙ are.measured.each (first_number c.args.self.now.contexts c.args.c) low
