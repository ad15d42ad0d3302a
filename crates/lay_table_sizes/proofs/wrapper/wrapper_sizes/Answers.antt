use Rattle.lay_table_sizes.proofs.Cited.{vertical_margin_is_used, zero_is_size}
use Rattle.lay_table_sizes.proofs.SizeSteps.{widths_fit, zero_is_inset}
use Rattle.lay_table_sizes.proofs.wrapper.wrapper_sizes.Goals as goal

pub returns-clause-fits : goal.returns-clause-fits
returns-clause-fits c =
    let widths = widths_fit c.args.rule c.args.containing.width c.args.style.now c.wrapper_width.result c.wrapper_widths.result c.wrapper_widths.ensures in
    record {
      margin_left = widths.margin_left;
      width = widths.width;
      margin_right = widths.margin_right;
      top = zero_is_inset;
      right = zero_is_inset;
      bottom = zero_is_inset;
      left = zero_is_inset;
      margin_top = let e = c.used_vertical_margin.ensures in rw e (vertical_margin_is_used c.args.containing.width c.args.style.now.margin.top);
      margin_bottom = let e = c.used_vertical_margin-2.ensures in rw e (vertical_margin_is_used c.args.containing.width c.args.style.now.margin.bottom);
      height = tt;
      min_height = zero_is_size;
    }
