-- A list in rising order; equal ones stay in the order that they had.
use Rattle.std.specs.Prelude.{Bool, List, [], ◌∷◌, if◌then◌else◌}

abbrev pub put_in_order : {X : Type 0} → (X → X → Bool) → X → List X → List X
put_in_order le x [] = x ∷ []
put_in_order le x (y ∷ ys) = if le x y then (x ∷ y ∷ ys) else (y ∷ put_in_order le x ys)

abbrev pub in_order : {X : Type 0} → (X → X → Bool) → List X → List X
in_order le [] = []
in_order le (x ∷ xs) = put_in_order le x (in_order le xs)
