-- What the widths of a table of the automatic layout come to: its columns fit into it, and there are as many as it has bounds.
use Rattle.std.proofs.Common.{◌≡◌, ◌+◌, ℕ, ℤ, ◌≤ℤ◌, List, Some, drop, length, slice_get, refl}
use Rattle.std.proofs.lemmas.Int.{by_lt_z}
use Rattle.lay_units.specs.declared.length.Unit.{Unit as Length}
use Rattle.lay_box_tree.specs.declared.box_tree.BoxNode.{BoxNode}
use Rattle.lay_measure.specs.declared.preferred_widths.PreferredWidths.{PreferredWidths}
use Rattle.lay_grid.specs.Automatic.AutoColumns.{AreAutoColumns, sum_max}
use Rattle.lay_grid.specs.declared.automatic.bounds.Bound.{Bound}
use Rattle.lay_table_grid.specs.TableGrid.{TableGridValue}
use Rattle.lay_table_sizes.specs.ColumnBounds.{greatest_content, least_content}
use Rattle.lay_table_sizes.proofs.AutoWidths.{auto_tables_have_room_lem}
use Rattle.lay_table_sizes.specs.CaptionWidths.{captions_from, with_box}
use Rattle.lay_table_sizes.specs.PreferredWidths.{widths_at}
use Rattle.lay_table_sizes.specs.TableBounds.{TableBoundsValue}
use Rattle.lay_table_sizes.specs.TableBoxes.{table_block, style_of_table, wrapper_style}
use Rattle.lay_table_sizes.specs.WantedWidth.{HasAutoWidth, length_of}
use Rattle.lay_table_sizes.proofs.CellSteps.{drop_step}

pub auto_columns_count : (bounds : List Bound) (space : ℤ) (widths : List Length) → AreAutoColumns bounds space widths → length widths ≡ length bounds
auto_columns_count bounds space widths are = by_lt_z (sum_max bounds) space (λ more. (are.beyond more).as_many) (λ within. (are.within within).as_many)

pub columns_fit : (containing : Length) (boxes : List BoxNode) (g : TableGridValue) (t : TableBoundsValue) (wanted : Length) → HasAutoWidth containing boxes g t wanted
    → least_content g t.columns ≤ℤ wanted.0
columns_fit containing boxes g t wanted is =
    let block = table_block g containing (wrapper_style boxes) (style_of_table boxes g) in
    (auto_tables_have_room_lem block (length_of (least_content g t.columns)) (length_of (greatest_content g t.columns)) t.captions wanted is).columns

-- captions are gathered from the last box on
pub captions_step : (inner : List PreferredWidths) (boxes : List BoxNode) (k : ℕ) (b : BoxNode) (before after : ℤ) → slice_get boxes k ≡ Some b
    → before ≡ captions_from inner (k + 1) (drop (k + 1) boxes) → after ≡ with_box b (widths_at inner k) before → after ≡ captions_from inner k (drop k boxes)
captions_step inner boxes k b before after at is step = let d = drop_step boxes k b at in rw (d, step, is) refl
