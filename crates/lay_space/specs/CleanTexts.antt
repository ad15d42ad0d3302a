-- Texts that white space processing (CSS 2.2, 16.6.1) leaves as they are: ASCII without tab, linefeed and
-- carriage return, in which no space follows a space.
use Rattle.std.specs.Prelude.{ℕ, ◌<◌, ◌≡◌, ◌≢◌, ◌==◌, Bool, true, List, [], ◌∷◌}

abbrev pub IsClean : Bool → List ℕ → Type 0
IsClean after_space [] = Unit {0}
IsClean after_space (b ∷ bs) =
    (b < 128) × (b ≢ 9) × (b ≢ 10) × (b ≢ 13) × (after_space ≡ true → b ≢ 32) × IsClean (b == 32) bs
