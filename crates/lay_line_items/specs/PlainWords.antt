-- What the code knows of words and spaces in a text of ASCII.
use Rattle.std.specs.Prelude.{ℕ, nat_lt, Bool, ◌==◌, ◌||◌, ◌&&◌, not}

-- a space, a linefeed or a tab
abbrev pub parts_words : ℕ → Bool
parts_words b = b == 32 || b == 10 || b == 9

-- a character of ASCII that isn't one of these, nor a carriage return
abbrev pub is_in_word : ℕ → Bool
is_in_word b = nat_lt b 128 && not (parts_words b) && not (b == 13)
