-- A column of lengths, with a value per box.
use Rattle.std.specs.Prelude.{ℕ, ℤ, List, slice_index_or}
use Rattle.lay_units.specs.declared.length.Unit.{Unit as Length}
use Rattle.lay_units.specs.Lengths.{no_length}

-- the length of the box at k in a column
abbrev pub length_at : List Length → ℕ → ℤ
length_at column k = (slice_index_or column k no_length).0
