-- The first place of a number in a list, as of an id among ids, or of a property's number among those that are declared.
use Rattle.std.specs.Prelude.{ℕ, suc, List, [], ◌∷◌, Option, Some, None, option_map, ◌==◌, if◌then◌else◌}

-- the place of the first of these numbers that is n
abbrev pub place_of : ℕ → List ℕ → Option ℕ
place_of n [] = None
place_of n (x ∷ xs) = if x == n then Some 0 else option_map suc (place_of n xs)
