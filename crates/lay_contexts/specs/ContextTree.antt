-- The tree of contexts (9.4.1). Around a context is the nearest element above it that is a context, and there, among that
-- one's boxes, its own box stands, or its anchor where it is absolute or fixed (9.6): once, and in no other context.
use Rattle.std.specs.Prelude.{ℕ, ◌≡◌, ◌<◌, true, false, List, length, slice_index, slice_index_or}
use Rattle.lay_style.specs.declared.style.Style.{Style}
use Rattle.lay_doc.specs.declared.node.Node.{Node}
use Rattle.lay_doc.specs.Document.{Document, IsDocument, ids_of, parents_of}
use Rattle.lay_box_tree.specs.BoxColumns.{box_ids, box_inner}
use Rattle.lay_boxgen.specs.Contexts.{IsContextAt, box_at, is_marked}
use Rattle.lay_boxgen.specs.Listing.{listed_part}
use Rattle.lay_boxgen.specs.Parts.{part}
use Rattle.lay_box_tree.specs.declared.box_tree.BoxNode.{BoxNode}

-- the place of the parent of the node at k
abbrev pub parent_of : List Node → ℕ → ℕ
parent_of nodes k = slice_index (parents_of nodes) k

-- the node at a is the nearest one above the node at k that is a context
pub data IsAround (nodes : List Node) (styles : List Style) : ℕ → ℕ → Type 0 where
  parent : (k : ℕ) → 0 < k → is_marked (box_at nodes styles (parent_of nodes k)) ≡ true → IsAround nodes styles k (parent_of nodes k)
  further : (k a : ℕ) → 0 < k → is_marked (box_at nodes styles (parent_of nodes k)) ≡ false → IsAround nodes styles (parent_of nodes k) a
      → IsAround nodes styles k a

-- the boxes of the context of the node at a
abbrev pub boxes_of_place : List Node → List Style → ℕ → List BoxNode
boxes_of_place nodes styles a = listed_part nodes styles (part nodes styles a)

-- among the boxes of the context of the node at a, the one at i is the box of the context of the node at k, or its anchor
pub record StandsIn (nodes : List Node) (styles : List Style) (k a i : ℕ) : Type 0 where
  pub within : i < length (boxes_of_place nodes styles a)
  pub inner : slice_index_or (box_inner (boxes_of_place nodes styles a)) i false ≡ true
  pub node : slice_index (box_ids (boxes_of_place nodes styles a)) i ≡ slice_index (ids_of nodes) k

-- it stands there, and nowhere else
pub record StandsOnce (nodes : List Node) (styles : List Style) (k : ℕ) : Type 0 where
  pub around : ℕ
  pub at : ℕ
  pub nearest : IsAround nodes styles k around
  pub context : IsContextAt nodes styles around
  pub stands : StandsIn nodes styles k around at
  pub only : (a i : ℕ) → IsContextAt nodes styles a → StandsIn nodes styles k a i → (a ≡ around) × (i ≡ at)

abbrev pub ContextsStandOnce : Type 0
ContextsStandOnce = (d : Document) (styles : List Style) (k : ℕ) → IsDocument d → length styles ≡ length d.nodes
    → 0 < k → IsContextAt d.nodes styles k → StandsOnce d.nodes styles k
