-- What is kept while a selector is read from its last step on: lists of nodes, of which each stands in all that the later
-- ones stand in. So all nodes that any of them stands in are those that the first stands in.
use Rattle.std.specs.Prelude.{ℕ, ◌≡◌, ◌<◌, ◌++◌, true, List, [], ◌∷◌, length, slice_index, Option, Some, None, if◌then◌else◌}
use Rattle.std.specs.List.{Contains}
use Rattle.lay_doc.specs.declared.node.Node.{Node}
use Rattle.lay_doc.specs.Document.{parents_of}
use Rattle.lay_doc.specs.Tree.{IsTree}
use Rattle.lay_cascade.specs.declared.node_names.names.Names.{Names}
use Rattle.lay_sheet.specs.declared.selector.Joint.{Joint}
use Rattle.lay_sheet.specs.declared.selector.Joint.TheVariants.{Descendant}
use Rattle.lay_sheet.specs.declared.selector.Simple.{Simple}
use Rattle.lay_cascade.specs.NodeNames.{fits_at}
use Rattle.lay_cascade.specs.declared.class_sets.ClassSet.{ClassSet}
use Rattle.lay_cascade.specs.ClassSets.{AreSets}
use Rattle.lay_cascade.specs.Matching.{Stands}
use Rattle.lay_cascade.specs.Siblings.{AreAdjacent}

-- the nodes of a tree have these names, these siblings before them, and these sets of classes
pub record IsNamed (nodes : List Node) (names : List Names) (adjacent : List (Option ℕ)) (class_sets : List ClassSet) : Type 0 where
  pub tree : IsTree (parents_of nodes)
  pub count : length names ≡ length nodes
  pub siblings : AreAdjacent nodes adjacent
  pub sets : AreSets names class_sets

-- each is the place of one of n nodes
abbrev pub AreWithin : ℕ → List ℕ → Type 0
AreWithin n places = (m : ℕ) → Contains places m → m < n

-- the node at m stands in all that the one at n stands in
abbrev pub Covers : List Node → ℕ → ℕ → Type 0
Covers nodes m n = (a : ℕ) → Stands nodes Descendant a n → Stands nodes Descendant a m

-- each covers those behind it
abbrev pub IsRising : List Node → List ℕ → Type 0
IsRising nodes places = (i j : ℕ) → i < j → j < length places → Covers nodes (slice_index places i) (slice_index places j)

-- of the nodes to which one of these stands as a joint says, those that fit a simple selector
pub record AreBefore (nodes : List Node) (names : List Names) (places : List ℕ) (joint : Joint) (simple : Simple) (found : List ℕ)
    : Type 0 where
  pub within : AreWithin (length nodes) found
  pub fitting : (m : ℕ) → Contains found m → fits_at names m simple ≡ true
  pub sound : (m : ℕ) → Contains found m → (k : ℕ) × Contains places k × Stands nodes joint m k
  pub complete : (m k : ℕ) → Contains places k → Stands nodes joint m k → fits_at names m simple ≡ true → Contains found m
  pub rising : IsRising nodes found

-- the list with one more, where there is one that fits a simple selector
abbrev pub with_fitting : List Names → List ℕ → Option ℕ → Simple → List ℕ
with_fitting names found None simple = found
with_fitting names found (Some m) simple = if fits_at names m simple then found ++ m ∷ [] else found
