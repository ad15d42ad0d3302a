-- The length that counts for none, and whether a length is another.
use Rattle.std.specs.Prelude.{ℤ, pos, negsuc, ◌==◌, Bool, true, not}
use Rattle.lay_units.specs.declared.length.Unit.{Unit as Length}

abbrev pub no_length : Length
no_length = record { 0 = pos 0 }

-- a number of units or of hundredths of a percent isn't 0
abbrev pub is_nonzero : ℤ → Bool
is_nonzero (pos n) = not (n == 0)
is_nonzero (negsuc n) = true
