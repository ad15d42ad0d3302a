use Rattle.lay_context_sizes.specs.ContextSizes.{SizedContext}
use Rattle.lay_context.specs.PlacedContexts.{PlacedContext}
use Rattle.lay_context_sizes.specs.MeasuredContexts.{MeasuredContext}
use Rattle.lay_cell_work.proofs.CellLawsLemmas.EndToEnd.{stands_lem}
use Rattle.lay_cell_work.proofs.cell_laws.laws.values_stand_at_numbers.Goals as goal

pub returns : goal.returns
returns c = record {
  widths = stands_lem MeasuredContext;
  sizes = stands_lem SizedContext;
  places = stands_lem PlacedContext;
}
