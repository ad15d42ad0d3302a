use Rattle.std.proofs.Common.{◌∙◌, ◌-ℤ◌}
use Rattle.lay_table_sizes.specs.ColumnBounds.{spaces}
use Rattle.lay_table_sizes.proofs.AutoSteps.{auto_columns_count, columns_fit}
use Rattle.lay_table_sizes.proofs.sizing.widths_by.Goals as goal

pub columns_in-requires-clause-least : goal.columns_in-requires-clause-least
columns_in-requires-clause-least c =
    columns_fit c.args.containing c.args.boxes.now c.args.grid.now c.args.bounds.now c.in_ok-wanted.wanted c.in_ok-wanted.ensures.wanted

pub returns-clause-count : goal.returns-clause-count
returns-clause-count c =
    auto_columns_count c.args.bounds.now.columns (c.in_ok-wanted.wanted.0 -ℤ spaces c.args.grid.now) c.in_ok-columns.columns c.in_ok-columns.ensures ∙ c.requires.count
