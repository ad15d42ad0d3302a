use Rattle.lay_table_sizes.proofs.Cited.{height_is_used, zero_is_size}
use Rattle.lay_table_sizes.proofs.SizeSteps.{content_is_used, zero_is_used}
use Rattle.lay_table_sizes.proofs.cell_boxes.cell_sizes.Goals as goal

pub returns-clause-fits : goal.returns-clause-fits
returns-clause-fits c =
    let edges = c.cell_insets-edges.ensures in
    record {
      margin_left = zero_is_used;
      width = let e = c.content_width.ensures in rw e (content_is_used c.args.cell c.cell_insets-edges.result);
      margin_right = zero_is_used;
      top = edges.top;
      right = edges.right;
      bottom = edges.bottom;
      left = edges.left;
      margin_top = zero_is_used;
      margin_bottom = zero_is_used;
      height = let e = c.used_height.ensures.value in rw e (height_is_used c.args.containing.height c.args.style.now.sizing.height);
      min_height = zero_is_size;
    }
