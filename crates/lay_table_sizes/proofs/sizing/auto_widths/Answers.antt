use Rattle.std.proofs.Common.{◌≡◌, IfOk, length, ap, sym, subst, ◌∙◌}
use Rattle.lay_table_sizes.specs.TableBounds.{TableBoundsValue, bounds_of_columns}
use Rattle.lay_table_sizes.specs.TableSizes.{AreAutoWidths}
use Rattle.lay_table_sizes.proofs.ColumnBounds.{bounds_stand, first_count}
use Rattle.lay_table_sizes.proofs.sizing.auto_widths.Goals as goal

pub returns-then-columns-count-clause-widths : goal.returns-then-columns-count-clause-widths
returns-then-columns-count-clause-widths c =
    let g = c.args.grid.now in
    let t = c.args.bounds.now in
    let count : length t.columns ≡ g.columns = rw (c.columns.ensures.columns, c.columns-count.ensures) at c.if-columns-count.true in
    let stands : bounds_of_columns g.columns t ≡ t = bounds_stand t g.columns count in
    subst (λ (u : TableBoundsValue). IfOk c.widths_by.result (λ w. AreAutoWidths c.args.containing c.args.boxes.now g u w.wanted w.columns)) (sym stands) c.widths_by.ensures.widths

pub widths_by-requires-2-clause-count : goal.widths_by-requires-2-clause-count
widths_by-requires-2-clause-count c =
    ap (λ (t : TableBoundsValue). length t.columns) c.in_ok-own.ensures ∙ first_count c.args.bounds.now.columns c.columns-count.result ∙ c.columns-count.ensures
