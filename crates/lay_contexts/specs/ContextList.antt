-- The contexts of a document in document order, each with its boxes (CSS 2.2, 9.4.1): `AreDocumentContexts`
-- says which they are and where the box of each stands outside, in the context with this number in the list, at
-- this place among the boxes of that one.
--
-- For example, a root has two floats, and in the first one is another. There are four contexts: the root's with the number 0,
-- those of the first float and of the float in it with 1 and 2, and that of the second float with 3. The second float's box is
-- at the place 2 in the context 0, behind the root's own box and that of the first float.
use Rattle.std.specs.Prelude.{ℕ, zero, suc, ◌≡◌, ◌<◌, ◌==◌, ◌&&◌, List, [], length, map, slice_index, slice_index_or, if◌then◌else◌}
use Rattle.lay_style.specs.declared.style.Style.{Style}
use Rattle.lay_doc.specs.declared.node.Node.{Node}
use Rattle.lay_box_tree.specs.declared.box_tree.BoxNode.{BoxNode}
use Rattle.lay_contexts.specs.ContextTree.{boxes_of_place}
use Rattle.lay_contexts.specs.DocumentContexts.{AreDocumentContexts, spot_at}
use Rattle.lay_contexts.specs.declared.context_spot.ContextSpot.{ContextSpot}
use Rattle.lay_contexts.specs.Contexts.{Context, context_at}

-- the boxes of each context
abbrev pub boxes_of_spots : List Node → List Style → List ContextSpot → List (List BoxNode)
boxes_of_spots nodes styles spots = map (λ s. boxes_of_place nodes styles s.place) spots

abbrev pub boxes_at : List (List BoxNode) → ℕ → List BoxNode
boxes_at boxes i = slice_index_or boxes i []

-- where the box of a context stands
abbrev pub spot_of : Context → ContextSpot
spot_of c = record { place = c.place; around = c.outer; at = c.outer_box }

-- the number of the context, one of the first n, whose box stands in the context `outer` at this place, and 0 where none does
abbrev pub number_before : List ContextSpot → (n outer box : ℕ) → ℕ
number_before spots zero outer box = 0
number_before spots (suc n) outer box =
    if (spot_at spots n).around == outer && (spot_at spots n).at == box then n else number_before spots n outer box

-- this is the context with the number i, in which the numbers of inner contexts below n are noted
pub record IsNumberedTo (spots : List ContextSpot) (boxes : List (List BoxNode)) (c : Context) (n i : ℕ) : Type 0 where
  pub spot : spot_of c ≡ spot_at spots i
  pub boxes_are : c.boxes ≡ boxes_at boxes i
  pub count : length c.inner ≡ length c.boxes
  pub inner : (k : ℕ) → k < length c.boxes → slice_index c.inner k ≡ number_before spots n i k

pub record AreNumberedTo (spots : List ContextSpot) (boxes : List (List BoxNode)) (contexts : List Context) (n : ℕ) : Type 0 where
  pub count : length contexts ≡ length spots
  pub each : (i : ℕ) → i < length contexts → IsNumberedTo spots boxes (context_at contexts i) n i

-- these are the contexts of a document, with their boxes
pub record AreContextsOf (nodes : List Node) (styles : List Style) (contexts : List Context) : Type 0 where
  pub spots : List ContextSpot
  pub are : AreDocumentContexts nodes styles spots
  pub numbered : AreNumberedTo spots (boxes_of_spots nodes styles spots) contexts (length spots)
