-- What is kept of the classes of a node that has many: which names they are.
use Rattle.std.specs.Prelude.{ℕ, ◌≡◌, ◌<◌, List, length, is_some, slice_index_or}
use Rattle.std.specs.List.{list_any}
use Rattle.std.specs.Str.{bytes_eq}
use Rattle.std.specs.HashMap as hash
use Rattle.lay_cascade.specs.declared.node_names.names.Names.{Names}
use Rattle.lay_cascade.specs.declared.class_sets.ClassSet.{ClassSet}

-- the set has the classes of this list and no other name
abbrev pub IsSetOf : List (List ℕ) → ClassSet → Type 0
IsSetOf classes set =
    (q : List ℕ) → is_some (hash.get_by (λ key. bytes_eq q key.now) set.places) ≡ list_any (λ class. bytes_eq q class) classes

-- a set of more than a few classes; of a few it may say anything
abbrev pub MaySetOf : List (List ℕ) → ClassSet → Type 0
MaySetOf classes set = 16 < length classes → IsSetOf classes set

-- the sets of the first n nodes
pub record AreSetsTo (n : ℕ) (names : List Names) (sets : List ClassSet) : Type 0 where
  pub count : length sets ≡ n
  pub each : (k : ℕ) (node : Names) (set : ClassSet) → k < n → node ≡ slice_index_or names k node → set ≡ slice_index_or sets k set →
      MaySetOf node.classes set

-- those of all nodes
abbrev pub AreSets : List Names → List ClassSet → Type 0
AreSets names sets = AreSetsTo (length names) names sets
