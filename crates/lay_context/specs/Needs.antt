-- The work of a layout, a task for each formatting context and phase, and which task needs the value of which. Preferred widths go from
-- inner contexts to the one around them (CSS 2.2, 10.3.5). Sizes go from the context around to the one inside it (10.1), and
-- placements from inner contexts to the one around them (10.6.7). An absolutely positioned one needs, for its sizes and for its place,
-- what is on the way out to its containing block (10.1); and as it is out of flow, nothing around it needs what it answers (9.6).
-- This says on which values a task depends. What it is given of the formatting contexts themselves, as of the boxes around it, is said
-- by `Alike`.
use Rattle.std.specs.Prelude.{ℕ, ◌≡◌, ◌+◌, ◌-◌, ◌*◌, ◌<◌, ◌⊎◌, true, false, List, length, slice_index}
use Rattle.lay_context.specs.declared.task.Phase.{Phase}
use Rattle.lay_context.specs.declared.task.Phase.TheVariants.{Measure, Size, Place}
use Rattle.lay_context.specs.declared.task.Task.{Task}
use Rattle.lay_contexts.specs.FormattingContexts.{FormattingContext, formatting_context_at}
use Rattle.lay_positioned.specs.Absolute.{is_absolute}
use Rattle.lay_positioned.specs.Ways.{IsOnWay}
use Rattle.lay_context.specs.DocumentLayout.{flow_numbers}

-- the one with the number j is inside the one with the number i, in flow or floating
pub record IsInsideFlow (contexts : List FormattingContext) (i j : ℕ) : Type 0 where
  pub box : ℕ
  pub within : box < length (flow_numbers contexts i)
  pub number : slice_index (flow_numbers contexts i) box ≡ j
  pub some : 0 < j

-- it is on the way of the absolutely positioned one with the number i
pub record IsOnWayOf (contexts : List FormattingContext) (i j : ℕ) : Type 0 where
  pub absolute : is_absolute contexts i ≡ true
  pub way : IsOnWay contexts i j

-- it is that around the one with the number i, which is in flow or floats
pub record IsAround (contexts : List FormattingContext) (i j : ℕ) : Type 0 where
  pub in_flow : is_absolute contexts i ≡ false
  pub some : 0 < i
  pub is : j ≡ (formatting_context_at contexts i).outer

-- the first task needs the value of the second
abbrev pub Needs : List FormattingContext → Task → Task → Type 0
Needs contexts task needed = by task.phase needed.phase
  where
    by : Phase → Phase → Type 0
    by Measure Measure = IsInsideFlow contexts task.context needed.context
    by Measure Size = ⊥
    by Measure Place = ⊥
    by Size Measure = needed.context ≡ task.context
    by Size Size = IsAround contexts task.context needed.context ⊎ IsOnWayOf contexts task.context needed.context
    by Size Place = IsOnWayOf contexts task.context needed.context
    by Place Measure = ⊥
    by Place Size = (needed.context ≡ task.context) ⊎ IsOnWayOf contexts task.context needed.context
    by Place Place = IsInsideFlow contexts task.context needed.context ⊎ IsOnWayOf contexts task.context needed.context

-- the first turn of the round of a level, of n formatting contexts
abbrev pub round_start : (n level : ℕ) → ℕ
round_start n level = n + level * (n + n)

-- The turn in which a task of one of n formatting contexts is done, which has this level: first preferred widths, from the last
-- formatting context to the first one; and then level by level sizes from the first one to the last, and placements from the last to
-- the first. In a round of a level each has a turn for either, though it may be of another level.
abbrev pub turn_by : (n level : ℕ) → Phase → ℕ → ℕ
turn_by n level Measure i = n - 1 - i
turn_by n level Size i = round_start n level + i
turn_by n level Place i = round_start n level + (n + n - 1 - i)

-- that of a task of formatting contexts that have these levels
abbrev pub turn_of : List ℕ → Task → ℕ
turn_of levels task = turn_by (length levels) (slice_index levels task.context) task.phase task.context
