-- What the code keeps while it goes through the boxes below a container: the items so far, and the places of the inline
-- boxes that are open, innermost first. With what the boxes from here on give inside each of them, and with their ends, the
-- items so far come to those of the container.
use Rattle.std.specs.Prelude.{ℕ, Bool, true, false, ◌<◌, List, [], ◌∷◌, ◌++◌, drop}
use Rattle.lay_box_tree.specs.declared.box_role.Role.{Role}
use Rattle.lay_box_tree.specs.declared.box_role.Role.TheVariants as role
use Rattle.lay_box_tree.specs.declared.box_tree.BoxNode.{BoxNode}
use Rattle.lay_space.specs.declared.item.Item.{Item}
use Rattle.lay_space.specs.declared.item.Item.TheVariants as item
use Rattle.lay_line_items.specs.InlineItems.{items_below}

-- what is still to come below the container at c in these open inline boxes, of the boxes `bs`, which begin at k
abbrev pub to_come : List BoxNode → ℕ → List ℕ → ℕ → List BoxNode → List Item
to_come boxes c [] k bs = items_below boxes c k bs
to_come boxes c (q ∷ qs) k bs = items_below boxes q k bs ++ item.End q ∷ to_come boxes c qs k bs

-- these items, and what is still to come of the boxes from k on
abbrev pub all_items : List BoxNode → ℕ → List Item → List ℕ → ℕ → List Item
all_items boxes c items qs k = items ++ to_come boxes c qs k (drop k boxes)

-- the box that is open innermost
abbrev pub innermost : ℕ → List ℕ → ℕ
innermost c [] = c
innermost c (q ∷ qs) = q

-- places that fall from less than k to more than c
abbrev pub Fall : ℕ → List ℕ → ℕ → Type 0
Fall c [] k = c < k
Fall c (q ∷ qs) k = (q < k) × Fall c qs q

abbrev pub is_inline : Role → Bool
is_inline role.Inline = true
is_inline _ = false
