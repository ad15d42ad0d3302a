-- What is kept while a selector is read from its first step on, for all nodes at once: a truth value for each node.
use Rattle.std.specs.Prelude.{ℕ, ◌≡◌, ◌<◌, Bool, true, false, List, length, reverse, take, slice_index_or}
use Rattle.lay_doc.specs.declared.node.Node.{Node}
use Rattle.lay_cascade.specs.declared.node_names.names.Names.{Names}
use Rattle.lay_sheet.specs.declared.selector.Joint.{Joint}
use Rattle.lay_sheet.specs.declared.selector.Step.{Step}
use Rattle.lay_cascade.specs.Matching.{Stands, Matches, Says}

-- a column says of each of the first n nodes whether something holds of it
pub record IsColumn (n : ℕ) (Holds : ℕ → Type 0) (column : List Bool) : Type 0 where
  pub count : length column ≡ n
  pub each : (k : ℕ) → k < n → Says (slice_index_or column k false) (Holds k)

-- the first steps of a selector come to the node at k
abbrev pub ComeTo : List Node → List Names → List Step → ℕ → ℕ → Type 0
ComeTo nodes names steps count k = Matches nodes names (reverse (take count steps)) k

-- the node at k stands to one that a column names as a joint says
abbrev pub IsReached : List Node → List Bool → Joint → ℕ → Type 0
IsReached nodes column joint k = (m : ℕ) × (slice_index_or column m false ≡ true) × Stands nodes joint m k

-- the node at k stands to one that the first steps come to as a joint says
abbrev pub Leads : List Node → List Names → List Step → ℕ → Joint → ℕ → Type 0
Leads nodes names steps count joint k = (m : ℕ) × ComeTo nodes names steps count m × Stands nodes joint m k
