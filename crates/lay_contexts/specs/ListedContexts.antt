-- What is known of the contexts of a document while they are listed (CSS 2.2, 9.4.1): the places of their nodes, and of each the
-- box that it has in another context, as far as that is found.
use Rattle.std.specs.Prelude.{ℕ, zero, suc, ◌≡◌, ◌<◌, List, length, map, slice_index, slice_index_or, Option, None, Some, IfSome}
use Rattle.lay_style.specs.declared.style.Style.{Style}
use Rattle.lay_doc.specs.declared.node.Node.{Node}
use Rattle.lay_boxgen.specs.Contexts.{IsContextAt}
use Rattle.lay_box_tree.specs.declared.box_tree.BoxNode.{BoxNode}
use Rattle.lay_contexts.specs.ContextTree.{StandsIn, boxes_of_place}
use Rattle.lay_contexts.specs.DocumentContexts.{root_spot, spot_at}
use Rattle.lay_contexts.specs.declared.context_spot.ContextSpot.{ContextSpot}
use Rattle.lay_contexts.specs.declared.standing.Standing.{Standing}

-- a node is in the list
pub record IsContextListed (places : List ℕ) (k : ℕ) : Type 0 where
  pub number : ℕ
  pub within : number < length places
  pub is : slice_index places number ≡ k

-- these are the places of all contexts, in document order
pub record AreContextPlaces (nodes : List Node) (styles : List Style) (places : List ℕ) : Type 0 where
  pub are : (i : ℕ) → i < length places → IsContextAt nodes styles (slice_index places i)
  pub rising : (i j : ℕ) → i < j → j < length places → slice_index places i < slice_index places j
  pub all : (k : ℕ) → IsContextAt nodes styles k → IsContextListed places k

-- the boxes of the contexts at these places
abbrev pub boxes_of_places : List Node → List Style → List ℕ → List (List BoxNode)
boxes_of_places nodes styles places = map (boxes_of_place nodes styles) places

abbrev pub listed_standing_at : List (Option Standing) → ℕ → Option Standing
listed_standing_at stands j = slice_index_or stands j None

-- the box of the context with the number j stands there
abbrev pub ContextStands : List Node → List Style → List ℕ → ℕ → Standing → Type 0
ContextStands nodes styles places j s =
    (s.around < length places) × StandsIn nodes styles (slice_index places j) (slice_index places s.around) s.at

-- what is found is right
pub record AreStanding (nodes : List Node) (styles : List Style) (places : List ℕ) (stands : List (Option Standing)) : Type 0 where
  pub count : length stands ≡ length places
  pub each : (j : ℕ) → j < length places → IfSome (listed_standing_at stands j) (ContextStands nodes styles places j)

-- the context with this number and place, whose box stands there; the first one is the root's
abbrev pub IsSpot : ℕ → ℕ → Option Standing → ContextSpot → Type 0
IsSpot zero place standing s = (s ≡ root_spot) × (place ≡ 0)
IsSpot (suc number) place standing s = (s.place ≡ place) × (standing ≡ Some (record { around = s.around; at = s.at }))

pub record AreSpots (places : List ℕ) (stands : List (Option Standing)) (spots : List ContextSpot) : Type 0 where
  pub count : length spots ≡ length places
  pub each : (i : ℕ) → i < length places → IsSpot i (slice_index places i) (listed_standing_at stands i) (spot_at spots i)
