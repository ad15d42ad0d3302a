-- The draws of the generator. A state is a number below 2^31; the next one comes by a fixed rule, and a draw is the state's
-- number without its last 16 bits.
use Rattle.std.specs.Prelude.{ℕ, zero, suc, ◌+◌, ◌*◌, ◌/◌, ◌%◌, ◌^◌}

abbrev pub next : ℕ → ℕ
next state = (1103515245 * state + 12345) % 2 ^ 31

-- the state after so many draws
abbrev pub state_after : ℕ → ℕ → ℕ
state_after zero state = state
state_after (suc n) state = state_after n (next state)

-- the n-th draw after a state, from 1 on
abbrev pub draw : ℕ → ℕ → ℕ
draw n state = state_after n state / 65536
