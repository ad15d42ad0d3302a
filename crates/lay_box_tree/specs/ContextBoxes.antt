-- The boxes of one context (CSS 2.2, 9.4.1): a tree in document order with the context's own box first. The boxes of inner
-- contexts stand among them alone: what is in them belongs to those.
use Rattle.std.specs.Prelude.{ℕ, ◌≡◌, ◌<◌, ◌&&◌, Bool, false, List, length, map, slice_index, slice_index_or}
use Rattle.lay_doc.specs.Tree.{IsTree}
use Rattle.lay_box_tree.specs.declared.box_tree.BoxNode.{BoxNode}
use Rattle.lay_box_tree.specs.BoxColumns.{box_parents}
use Rattle.lay_box_tree.specs.Roles.{is_float as is_float_role, role_at}

-- the box at k is that of an inner context
abbrev pub is_inner : List BoxNode → ℕ → Bool
is_inner boxes k = slice_index_or (map (λ b. b.inner) boxes) k false

-- the box at k is that of an inner context which floats
abbrev pub is_float : List BoxNode → ℕ → Bool
is_float boxes k = is_inner boxes k && is_float_role (role_at boxes k)

pub record AreContextBoxes (boxes : List BoxNode) : Type 0 where
  pub some : 0 < length boxes
  pub tree : IsTree (box_parents boxes)
  pub own : is_inner boxes 0 ≡ false
  pub parents : (k : ℕ) → 0 < k → k < length boxes → is_inner boxes (slice_index (box_parents boxes) k) ≡ false
