use Rattle.std.proofs.Common.{refl}
use Rattle.lay_sizes.proofs.SizesFit.{sizes_fit_lem}
use Rattle.lay_sizes.proofs.sizing.box_sizes.Goals as goal

pub returns-clause-fits : goal.returns-clause-fits
returns-clause-fits c =
    let natural = c.natural_of-natural.ensures in
    sizes_fit_lem c.args.containing c.args.rule c.args.style.now _ (record {
      containing_is = refl;
      widths = c.used_widths.ensures;
      edges = c.edges_of.ensures.value;
      margin_top = c.used_vertical_margin.ensures;
      margin_bottom = c.used_vertical_margin-2.ensures;
      height = rw natural at c.height_of.ensures.value;
      min_height = rw natural at c.min_height_of.ensures.value;
      max_height = rw natural at c.max_height_of.ensures.value;
    })
