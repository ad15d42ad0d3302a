-- Draws: a linear congruential generator of 31 bits, of whose numbers a draw is the upper half.
use Rattle.std.specs.Prelude.{ℕ, ◌+◌, ◌*◌, ◌/◌, ◌%◌, ◌==◌}
use Rattle.lay_box_cases.specs.declared.float_draws.Drawn.{Drawn}

-- the number after this one
abbrev pub next_draw : ℕ → ℕ
next_draw x = (x * 1103515245 + 12345) % 2147483648

abbrev pub drawn_number : ℕ → ℕ
drawn_number x = x / 65536

-- the float of the three draws after this number: a left one where the first is odd, 10 to 209 px wide and 1 to 60 px high
abbrev pub drawn_after : ℕ → Drawn
drawn_after x = record {
  is_left = drawn_number (next_draw x) % 2 == 1;
  width = drawn_number (next_draw (next_draw x)) % 200 + 10;
  height = drawn_number (next_draw (next_draw (next_draw x))) % 60 + 1;
}
