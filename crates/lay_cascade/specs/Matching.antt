-- Which nodes a selector matches (CSS 2.2, 5.5 to 5.7).
-- The first step asks for a node, and each step behind it for a node that stands to the one before as its joint says.
-- A selector matches the node that its last step comes to.
use Rattle.std.specs.Prelude.{ℕ, ◌≡◌, ◌<◌, Bool, true, false, List, [], ◌∷◌, reverse, slice_index}
use Rattle.lay_doc.specs.declared.node.Node.{Node}
use Rattle.lay_doc.specs.Document.{parents_of}
use Rattle.lay_doc.specs.Tree.{IsUnder}
use Rattle.lay_sheet.specs.declared.selector.Joint.{Joint}
use Rattle.lay_sheet.specs.declared.selector.Joint.TheVariants.{Same, Descendant, Child, Adjacent}
use Rattle.lay_sheet.specs.declared.selector.Step.{Step}
use Rattle.lay_cascade.specs.declared.node_names.names.Names.{Names}
use Rattle.lay_cascade.specs.NodeNames.{fits_at}
use Rattle.lay_cascade.specs.Siblings.{IsAdjacent}

-- the node at k stands to that at m as a joint says: it is the same one, one in it, its child, or the one behind it
abbrev pub Stands : List Node → Joint → ℕ → ℕ → Type 0
Stands nodes Same m k = m ≡ k
Stands nodes Descendant m k = (0 < k) × IsUnder (parents_of nodes) m (slice_index (parents_of nodes) k)
Stands nodes Child m k = (0 < k) × (slice_index (parents_of nodes) k ≡ m)
Stands nodes Adjacent m k = IsAdjacent nodes m k

-- the steps, which are listed from the last to the first, come to the node at k
pub data Matches (nodes : List Node) (names : List Names) : List Step → ℕ → Type 0 where
  first : (step : Step) (k : ℕ) → fits_at names k step.simple ≡ true → Matches nodes names (step ∷ []) k
  next : (step : Step) (before : List Step) (m k : ℕ) → Matches nodes names before m → Stands nodes step.joint m k →
      fits_at names k step.simple ≡ true → Matches nodes names (step ∷ before) k

-- the selector matches the node at k
abbrev pub IsMatched : List Node → List Names → List Step → ℕ → Type 0
IsMatched nodes names selector k = Matches nodes names (reverse selector) k

-- a truth value says whether something holds
pub record Says (b : Bool) (Holds : Type 0) : Type 0 where
  pub yes : b ≡ true → Holds
  pub no : b ≡ false → Holds → ⊥
