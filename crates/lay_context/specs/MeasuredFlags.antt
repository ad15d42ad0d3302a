-- Whether each of a list of formatting contexts is measured, as who asks for one of them is given it.
use Rattle.std.specs.Prelude.{ℕ, ◌≡◌, ◌<◌, Bool, List, length}
use Rattle.lay_flow.specs.Blocks.Children.{flag_at}
use Rattle.lay_contexts.specs.FormattingContexts.{FormattingContext}
use Rattle.lay_context.specs.Measured.{is_measured}

-- these flags say of each formatting context whether it is measured
pub record AreMeasured (contexts : List FormattingContext) (flags : List Bool) : Type 0 where
  pub count : length flags ≡ length contexts
  pub each : (i : ℕ) → i < length contexts → flag_at flags i ≡ is_measured contexts i
