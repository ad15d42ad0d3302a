-- What is known of the formatting contexts of a document.
use Rattle.std.specs.Prelude.{List}
use Rattle.lay_context_sizes.specs.ContextSizes.{SizedContext}
use Rattle.lay_context_sizes.specs.MeasuredContexts.{MeasuredContext}
use Rattle.lay_context.specs.PlacedContexts.{PlacedContext}

-- columns of values, with one for each formatting context
pub record Workings : Type 0 where
  pub widths : List MeasuredContext
  pub sizes : List SizedContext
  pub places : List PlacedContext
