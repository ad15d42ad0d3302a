use Rattle.lay_context.proofs.SomeValue.{some_local_lem}
use Rattle.lay_context.proofs.laws.some_local.Goals as goal

pub returns : goal.returns
returns c =
    some_local_lem (record {
      widths = c.some_context_widths.ensures;
      sizes = c.some_context_sizes.ensures;
      placement = c.some_placement.ensures;
      table_placement = c.some_table_placement.ensures;
    })
