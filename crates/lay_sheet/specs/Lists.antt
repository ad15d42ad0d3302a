-- Lists that are found from their front on.
use Rattle.std.specs.Prelude.{List, ◌∷◌, ◌++◌, Option, Some, None}

-- a list with what was found before it, if anything was
abbrev pub with_found : {A : Type 0} → Option A → List A → List A
with_found None xs = xs
with_found (Some x) xs = x ∷ xs

-- what was found, with one element before it
abbrev pub preceded : {A : Type 0} → A → Option (List A) → Option (List A)
preceded x None = None
preceded x (Some xs) = Some (x ∷ xs)

-- what was found, with a list before it
abbrev pub continued : {A : Type 0} → List A → Option (List A) → Option (List A)
continued done None = None
continued done (Some xs) = Some (done ++ xs)
