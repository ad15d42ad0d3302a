-- The level of a context: how many absolutely positioned ones there are from it, itself included, out to the root's. What is positioned
-- by another context (CSS 2.2, 10.1) has a higher level, so its cells come after those of that one.
use Rattle.std.specs.Prelude.{ℕ, zero, suc, ◌+◌, List}
use Rattle.lay_contexts.specs.Contexts.{Context, context_at}
use Rattle.lay_positioned.specs.Levels.{one_if}
use Rattle.lay_shape.specs.Ways.{is_absolute}

-- counted outward in so many turns: no more contexts are around one than stand before it
abbrev pub level_in : (turns : ℕ) → List Context → ℕ → ℕ
level_in zero contexts i = one_if (is_absolute contexts i)
level_in (suc turns) contexts zero = one_if (is_absolute contexts 0)
level_in (suc turns) contexts (suc i) =
    level_in turns contexts (context_at contexts (suc i)).outer + one_if (is_absolute contexts (suc i))

abbrev pub level_of : List Context → ℕ → ℕ
level_of contexts i = level_in i contexts i
