-- Tab stops (CSS 2.2, 16.6): they are as far apart as eight spaces are wide, and begin at the left content edge of the block. So
-- stops that are 100 units apart stand at 0, 100 and 200, and the next one after 100 is at 200.
use Rattle.std.specs.Prelude.{zero, suc, ℤ, pos, negsuc, ◌+ℤ◌, ◌*ℤ◌}
use Rattle.std.specs.Int.{int_div_euclid}

-- the next tab stop, where stops are this far apart. There are none where that is 0.
abbrev pub next_stop : ℤ → ℤ → ℤ
next_stop (pos zero) at = at
next_stop (pos (suc s)) at = (int_div_euclid at (pos (suc s)) +ℤ pos 1) *ℤ pos (suc s)
next_stop (negsuc s) at = at
