-- The rows of a table one below the other, or its columns one beside the other (CSS 2.2, 17.5 and 17.6.1), counted from the edge of the
-- table box's content: before each of them and behind the last one there is the spacing.
--
-- Two rows of the heights 10 and 20 with a spacing of 2 begin at 2 and at 14, and a next one would at 36. Both together reach
-- over 32.
use Rattle.std.specs.Prelude.{ℕ, zero, suc, ◌+◌, ℤ, ◌+ℤ◌, ◌-ℤ◌, List, length}
use Rattle.lay_units.specs.declared.length.Unit.{Unit as Length}
use Rattle.lay_flow.specs.Blocks.Lengths.{length_at}

pub record Tracks : Type 0 where
  pub lengths : List Length
  pub spacing : Length

-- where the track k begins, or the next one after all would
abbrev pub start_of : Tracks → ℕ → ℤ
start_of t zero = t.spacing.0
start_of t (suc k) = start_of t k +ℤ length_at t.lengths k +ℤ t.spacing.0

-- how far so many tracks from this one on reach, with the spacings between them
abbrev pub extent_of : Tracks → (first count : ℕ) → ℤ
extent_of t first count = start_of t (first + count) -ℤ t.spacing.0 -ℤ start_of t first

-- where a next track would begin
abbrev pub end_of : Tracks → ℤ
end_of t = start_of t (length t.lengths)
