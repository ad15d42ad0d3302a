use Rattle.lay_context.proofs.OneValue.{one_local_lem}
use Rattle.lay_context.proofs.laws.one_local.Goals as goal

pub returns : goal.returns
returns c =
    one_local_lem (record {
      widths = c.one_context_widths.ensures;
      sizes = c.one_context_sizes.ensures;
      placement = c.one_placement.ensures;
      table_placement = c.one_table_placement.ensures;
    })
