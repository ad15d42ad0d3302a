-- An absolute or fixed element stands in the context around by its anchor alone (CSS 2.2, 9.6), which takes no room there and has
-- the style of its parent box. So an edit of declarations of such an element, after which it still is one, touches no contexts but
-- its own and those inside it.
use Rattle.std.specs.Prelude.{ℕ, ◌≡◌, ◌⊎◌, true, List, Some}
use Rattle.lay_style.specs.declared.style.Style.{Style}
use Rattle.lay_style.specs.Places.{place_of}
use Rattle.lay_doc.specs.declared.edit.Edit.{Edit}
use Rattle.lay_doc.specs.declared.edit.Edit.TheVariants.{SetStyle, ClearStyle}
use Rattle.lay_doc.specs.Document.{Document, ids_of}
use Rattle.lay_doc.specs.Edits.{after}
use Rattle.lay_boxgen.specs.Forms.{is_absolute}
use Rattle.lay_boxgen.specs.declared.facts.Facts.{Facts}
use Rattle.lay_boxgen.specs.Contexts.{IsContext, box_at}
use Rattle.lay_contexts.specs.Edited.Reached.{IsReached}
use Rattle.lay_contexts.specs.Edited.Touched.{Edits, KeepsBoxes}

-- the edit changes declarations of the node with this id
abbrev pub IsRestyling : Edit → ℕ → Type 0
IsRestyling (SetStyle node decl) id = node.0 ≡ id
IsRestyling (ClearStyle node property) id = node.0 ≡ id
IsRestyling _ id = ⊥

-- the box of the node with this id is absolute or fixed
pub record HasAbsoluteBox (d : Document) (styles : List Style) (id : ℕ) : Type 0 where
  pub place : ℕ
  pub named : place_of id (ids_of d.nodes) ≡ Some place
  pub box : Facts
  pub there : box_at d.nodes styles place ≡ Some box
  pub absolute : is_absolute box.flow ≡ true

-- the edit reaches the node with this id
pub record ReachesNode (d : Document) (edit : Edit) (id : ℕ) : Type 0 where
  pub place : ℕ
  pub named : place_of id (ids_of d.nodes) ≡ Some place
  pub reached : IsReached d edit place

-- a context keeps its boxes, or it is that of the element or one inside it
abbrev pub AnchorsKeepContextsAround : Type 0
AnchorsKeepContextsAround = (d : Document) (edit : Edit) (styles others : List Style) (element id : ℕ) → Edits d edit styles others
    → IsRestyling edit element → HasAbsoluteBox d styles element → HasAbsoluteBox (after d edit) others element
    → IsContext d styles id ⊎ IsContext (after d edit) others id
    → KeepsBoxes d (after d edit) styles others id ⊎ ReachesNode d edit id
