-- The level of a formatting context: how many absolutely positioned ones there are from it, itself included, out to the root's.
-- What is positioned by another one (CSS 2.2, 10.1) has a higher level, so layout goes from level to level.
use Rattle.std.specs.Prelude.{ℕ, zero, suc, ◌≡◌, ◌+◌, ◌<◌, ◌≤◌, Bool, true, false, List, length, slice_index}
use Rattle.lay_contexts.specs.FormattingContexts.{FormattingContext, formatting_context_at}
use Rattle.lay_positioned.specs.Absolute.{is_absolute}

abbrev pub one_if : Bool → ℕ
one_if true = 1
one_if false = 0

-- the level of the one with the number i, beside those of the ones before it
abbrev pub level_beside : List FormattingContext → List ℕ → ℕ → ℕ
level_beside contexts levels zero = one_if (is_absolute contexts 0)
level_beside contexts levels (suc i) =
    slice_index levels (formatting_context_at contexts (suc i)).outer + one_if (is_absolute contexts (suc i))

pub record HasLevels (contexts : List FormattingContext) (levels : List ℕ) : Type 0 where
  pub count : length levels ≡ length contexts
  pub each : (i : ℕ) → i < length contexts → slice_index levels i ≡ level_beside contexts levels i

-- how many levels there are: the first level that is above all of these, counted from 1
pub record IsLevelCount (levels : List ℕ) (count : ℕ) : Type 0 where
  pub some : 0 < count
  pub above : (k : ℕ) → k < length levels → slice_index levels k < count
  pub least : (c : ℕ) → 0 < c → ((k : ℕ) → k < length levels → slice_index levels k < c) → count ≤ c

-- they are few: no level is greater than the number of formatting contexts out to the first one
abbrev pub AreFewLevels : List ℕ → Type 0
AreFewLevels levels = (k : ℕ) → k < length levels → slice_index levels k ≤ k + 1
