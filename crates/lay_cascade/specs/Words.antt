-- Words of 64 truth values.
use Rattle.std.specs.Prelude.{ℕ, zero, suc, ◌*◌, ◌%◌, ◌^◌, ◌==◌, ◌&&◌, ◌||◌, Bool, true, false, bit_or}
use Rattle.std.specs.Int.{bit_at}

-- the truth value at a place
abbrev pub is_in : ℕ → ℕ → Bool
is_in word j = bit_at word j == 1

-- the word in which that at a place is true
abbrev pub with_bit : ℕ → ℕ → ℕ
with_bit word j = bit_or word (1 * 2 ^ j % 2 ^ 64)

-- each one place further on
abbrev pub shifted : ℕ → ℕ
shifted word = word * 2 ^ 1 % 2 ^ 64

-- the word that has one at its front
abbrev pub front_word : Bool → ℕ
front_word true = 1
front_word false = 0

-- where the first is true, and on from there as far as the second is
abbrev pub spread : ℕ → ℕ → ℕ → Bool
spread start run zero = is_in start zero
spread start run (suc j) = is_in start (suc j) || (is_in run (suc j) && spread start run j)
