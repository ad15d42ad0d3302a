-- The numbers of contexts by their nodes, as the search for a context keeps them.
use Rattle.std.specs.Prelude.{ℕ, ◌≡◌, ◌<◌, List, Option, None, Some}
use Rattle.lay_contexts.specs.Contexts.{Context}
use Rattle.lay_shape.specs.Keys.{node_of}

-- among the first n contexts this is the number of that of the node with this id
abbrev pub IsNumberOf : List Context → (n id : ℕ) → Option ℕ → Type 0
IsNumberOf contexts n id None = (i : ℕ) → i < n → (node_of contexts i).0 ≡ id → ⊥
IsNumberOf contexts n id (Some i) = (i < n) × ((node_of contexts i).0 ≡ id)
