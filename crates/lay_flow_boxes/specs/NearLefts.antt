-- Left border edges within bounds.
use Rattle.std.specs.Prelude.{ℕ, ◌<◌, ◌^◌, ℤ, pos, List, length}
use Rattle.lay_units.specs.declared.length.Unit.{Unit as Length}
use Rattle.lay_floats.specs.Within.{IsWithin}
use Rattle.lay_flow.specs.Blocks.Lengths.{length_at}

-- at most 2^49 units away
abbrev pub IsNearLeft : ℤ → Type 0
IsNearLeft v = IsWithin (pos (2 ^ 49)) v

abbrev pub AreNearLefts : List Length → Type 0
AreNearLefts lefts = (k : ℕ) → k < length lefts → IsNearLeft (length_at lefts k)
