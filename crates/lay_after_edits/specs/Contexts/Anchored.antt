-- Where declarations of an absolute or fixed element change that stays one, the context around it isn't reached: the element stands there
-- by its anchor alone (CSS 2.2, 9.6), which has the style of its parent box.
use Rattle.std.specs.Prelude.{ℕ, ⊤, ◌≡◌, ◌⊎◌, true, List, Some, slice_get}
use Rattle.lay_style.specs.declared.style.Style.{Style}
use Rattle.lay_style.specs.ComputedStyle.{style_at}
use Rattle.lay_doc.specs.declared.edit.Edit.{Edit}
use Rattle.lay_doc.specs.declared.edit.Edit.TheVariants.{SetStyle, ClearStyle}
use Rattle.lay_doc.specs.declared.node.Node.{Node}
use Rattle.lay_boxgen.specs.Forms.{is_absolute}
use Rattle.lay_boxgen.specs.declared.facts.Facts.{Facts}
use Rattle.lay_boxgen.specs.Contexts.{box_at}
use Rattle.lay_boxgen.specs.NodeBoxes.{node_flow}
use Rattle.lay_after_edits.specs.declared.contexts.reach.Reach.{Reach}

-- the edit changes declarations
abbrev pub IsStyleEdit : Edit → Type 0
IsStyleEdit (SetStyle node decl) = ⊤
IsStyleEdit (ClearStyle node property) = ⊤
IsStyleEdit _ = ⊥

-- the node at a place, if it generates a box, is absolute or fixed
abbrev pub FlowsAbsolutely : List Node → List Style → ℕ → Type 0
FlowsAbsolutely nodes styles place = (n : Node) → slice_get nodes place ≡ Some n →
    is_absolute (node_flow n.kind (style_at styles place)) ≡ true

-- the edit changes declarations, and the box of the node at a place is absolute or fixed
pub record IsAnchored (edit : Edit) (nodes : List Node) (styles : List Style) (place : ℕ) : Type 0 where
  pub restyles : IsStyleEdit edit
  pub box : Facts
  pub there : box_at nodes styles place ≡ Some box
  pub absolute : is_absolute box.flow ≡ true

-- what is reached without the context around, or all of it
pub record IsNarrowed (edit : Edit) (nodes : List Node) (styles : List Style) (r narrow : Reach) : Type 0 where
  pub from_is : narrow.from ≡ r.from
  pub until_is : narrow.until ≡ r.until
  pub around_is : (narrow.around ≡ r.around) ⊎ IsAnchored edit nodes styles r.from
