use Rattle.std.proofs.Common.{◌≡◌, ap, ◌∙◌}
use Rattle.lay_table_sizes.specs.ColumnBounds.{greatest_content, least_content}
use Rattle.lay_table_sizes.specs.TableBoxes.{table_block, style_of_table, wrapper_style}
use Rattle.lay_table_sizes.specs.WantedWidth.{length_of}
use Rattle.lay_table_sizes.proofs.wanted_width.shrunk_width.Goals as goal

pub returns-clause-wanted : goal.returns-clause-wanted
returns-clause-wanted c =
    let boxes = c.args.boxes.now in
    let g = c.args.grid.now in
    let columns = c.args.bounds.now.columns in
    let block : c.table_block-block.result ≡ table_block g c.args.containing (wrapper_style boxes) (style_of_table boxes g) =
    rw (c.style_of_box-wrapper.ensures, c.style_of_box-style.ensures, c.table.ensures) at c.table_block-block.ensures.value in
    let least : c.in_ok-least.least ≡ length_of (least_content g columns) = ap length_of (c.in_ok-least.ensures ∙ ap (least_content g) c.columns.ensures.columns) in
    let greatest : c.in_ok-greatest.greatest ≡ length_of (greatest_content g columns) =
    ap length_of (c.in_ok-greatest.ensures ∙ ap (greatest_content g) c.columns-2.ensures.columns) in
    rw (block, least, greatest, c.captions.ensures) at c.auto_width.ensures.width
