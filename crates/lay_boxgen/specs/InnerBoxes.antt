-- The boxes of inner contexts among the boxes of a context are those of contexts again, further on in the
-- document. So whoever goes from a context's part to the parts of its inner contexts meets contexts alone,
-- and comes to an end. What is inside the boxes of inner contexts stands in their own lists alone.
use Rattle.std.specs.Prelude.{◌≡◌, ◌<◌, ℕ, true, All, Option, Some, List, [], ◌∷◌, length, slice_index}
use Rattle.lay_style.specs.declared.style.Style.{Style}
use Rattle.lay_style.specs.Places.{place_of}
use Rattle.lay_doc.specs.declared.node.Node.{Node}
use Rattle.lay_doc.specs.Document.{Document, IsDocument, ids_of}
use Rattle.lay_boxgen.specs.Boxes.{Tree, Trees, tree, no_trees, also}
use Rattle.lay_boxgen.specs.Contexts.{GeneratesBox, IsContextAt, IsContext}
use Rattle.lay_boxgen.specs.Listing.{boxes_of}
use Rattle.lay_boxgen.specs.Parts.{whole}
use Rattle.lay_box_tree.specs.declared.box_tree.BoxNode.{BoxNode}
use Rattle.lay_boxgen.specs.declared.facts.Facts.{Facts}

-- a fact of all boxes of a tree, and of several
abbrev mutual
  pub AllBoxes : (Facts → Type 0) → Tree → Type 0
  AllBoxes P (tree f children) = P f × AllIn P children

  pub AllIn : (Facts → Type 0) → Trees → Type 0
  AllIn P no_trees = Unit {0}
  AllIn P (also t ts) = AllBoxes P t × AllIn P ts

abbrev pub AllOf : (Facts → Type 0) → List Tree → Type 0
AllOf P [] = Unit {0}
AllOf P (t ∷ ts) = AllBoxes P t × AllOf P ts

-- a box with these facts names a node behind the one at k, which is a context
pub record NamesContext (nodes : List Node) (styles : List Style) (k : ℕ) (f : Facts) : Type 0 where
  pub behind : k < f.place
  pub within : f.place < length nodes
  pub node : slice_index (ids_of nodes) f.place ≡ f.node.0
  pub context : IsContextAt nodes styles f.place

-- a box of an inner context does
abbrev pub IsInnerContext : List Node → List Style → ℕ → Facts → Type 0
IsInnerContext nodes styles k f = f.inner ≡ true → NamesContext nodes styles k f

abbrev pub InnerBoxesAreContexts : Type 0
InnerBoxesAreContexts = (nodes : List Node) (styles : List Style) (k : ℕ)
    → GeneratesBox nodes styles k → AllOf (IsInnerContext nodes styles k) (whole nodes styles k)

abbrev pub IsPlaceBehind : Option ℕ → Option ℕ → Type 0
IsPlaceBehind (Some k) (Some j) = k < j
IsPlaceBehind _ _ = ⊥

-- a box in the list of a context's boxes that is marked as inner is of a context behind that one
abbrev pub LeadsOn : Document → List Style → ℕ → BoxNode → Type 0
LeadsOn d styles id b = b.inner ≡ true
    → IsContext d styles b.node.0 × IsPlaceBehind (place_of id (ids_of d.nodes)) (place_of b.node.0 (ids_of d.nodes))

abbrev pub BoxesLeadOn : Type 0
BoxesLeadOn = (d : Document) (styles : List Style) (id : ℕ) → IsDocument d → IsContext d styles id
    → All (LeadsOn d styles id) (boxes_of d styles id)
