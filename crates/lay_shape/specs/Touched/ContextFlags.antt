-- Whether each of a document's contexts is measured, as who compares contexts is given it.
use Rattle.std.specs.Prelude.{ℕ, ◌≡◌, ◌<◌, Bool, List, length}
use Rattle.lay_flow.specs.Blocks.Children.{flag_at}
use Rattle.lay_contexts.specs.Contexts.{Context}
use Rattle.lay_contexts.specs.FormattingContexts.{FormattingContext}
use Rattle.lay_contexts.specs.FormattingContextList.{first_number}
use Rattle.lay_context.specs.Measured.{is_measured}

-- these flags say of the first n contexts whether they are measured
pub record AreContextFlagsTo (contexts : List Context) (all : List FormattingContext) (flags : List Bool) (n : ℕ) : Type 0 where
  pub count : length flags ≡ n
  pub each : (i : ℕ) → i < n → flag_at flags i ≡ is_measured all (first_number contexts i)

abbrev pub AreContextFlags : List Context → List FormattingContext → List Bool → Type 0
AreContextFlags contexts all flags = AreContextFlagsTo contexts all flags (length contexts)

-- the contexts of a document with their formatting contexts
pub record ContextLists : Type 0 where
  pub contexts : List Context
  pub formatting_contexts : List FormattingContext
