-- What stands in the lines of a block container (CSS 2.2, 9.2.2, 9.4.2 and 9.5): the inline-level boxes below it, and the
-- floats and anchors among them, in the order of the box tree. An inline box begins, has what is in it, and ends. What is
-- in other boxes isn't in these lines. Each is named by the place of its box in its context.
--
-- A container with the text "a", an inline box that holds a float and the text "b", and the text "c" has the items
-- "a", the start of the inline box, the float, "b", the end of the inline box, "c".
use Rattle.std.specs.Prelude.{ℕ, ◌+◌, ◌==◌, List, [], ◌∷◌, ◌++◌, drop, if◌then◌else◌}
use Rattle.lay_style.specs.declared.style_words.WhiteSpace.{WhiteSpace}
use Rattle.lay_style.specs.declared.style_words.WhiteSpace.TheVariants as space
use Rattle.lay_style.specs.ComputedStyle.{style_at}
use Rattle.lay_box_tree.specs.BoxColumns.{box_styles}
use Rattle.lay_box_tree.specs.Roles.{role_of}
use Rattle.lay_box_tree.specs.declared.box_role.Role.{Role}
use Rattle.lay_box_tree.specs.declared.box_role.Role.TheVariants as role
use Rattle.lay_box_tree.specs.declared.box_tree.BoxKind.{BoxKind}
use Rattle.lay_box_tree.specs.declared.box_tree.BoxKind.TheVariants as kind
use Rattle.lay_box_tree.specs.declared.box_tree.BoxNode.{BoxNode}
use Rattle.lay_space.specs.declared.item.Mode.{Mode}
use Rattle.lay_space.specs.declared.item.Mode.TheVariants as mode
use Rattle.lay_space.specs.declared.item.Item.{Item}
use Rattle.lay_space.specs.declared.item.Item.TheVariants as item
use Rattle.lay_line_items.specs.InlineStarts.{takes_room}

abbrev pub mode_of : WhiteSpace → Mode
mode_of space.Normal = mode.Normal
mode_of space.Pre = mode.Pre
mode_of space.Nowrap = mode.NoWrap
mode_of space.PreWrap = mode.PreWrap
mode_of space.PreLine = mode.PreLine

-- `white-space` of the box at k
abbrev pub mode_at : List BoxNode → ℕ → Mode
mode_at boxes k = mode_of (style_at (box_styles boxes) k).text.white_space

-- the text of a box, which of another kind is none
abbrev pub text_of : BoxKind → List ℕ
text_of (kind.Text text) = text
text_of _ = []

-- what the box b at k gives, where it has this role and its children give what is `inside`. An atomic box stands under the
-- `white-space` of the box that directly holds it.
abbrev pub items_as : List BoxNode → Role → ℕ → BoxNode → List Item → List Item
items_as boxes role.Text k b inside = item.Text k (text_of b.kind) (mode_of b.style.text.white_space) [] ∷ []
items_as boxes role.Inline k b inside = item.Start k (takes_room boxes k b) ∷ inside ++ item.End k ∷ []
items_as boxes role.Atomic k b inside = item.Atomic k (mode_at boxes b.parent) ∷ []
items_as boxes role.LeftFloat k b inside = item.Float k ∷ []
items_as boxes role.RightFloat k b inside = item.Float k ∷ []
items_as boxes role.Anchor k b inside = item.Anchor k ∷ []
items_as boxes role.Own k b inside = []
items_as boxes role.Block k b inside = []
items_as boxes role.Solid k b inside = []
items_as boxes role.TablePart k b inside = []

abbrev pub items_at : List BoxNode → ℕ → BoxNode → List Item → List Item
items_at boxes k b inside = items_as boxes (role_of b) k b inside

-- what the children of the box at p give that stand from the place k on, where these boxes stand
abbrev pub items_below : List BoxNode → ℕ → ℕ → List BoxNode → List Item
items_below boxes p k [] = []
items_below boxes p k (b ∷ bs) =
    if b.parent == p then items_at boxes k b (items_below boxes k (k + 1) bs) ++ items_below boxes p (k + 1) bs
    else items_below boxes p (k + 1) bs

-- what stands in the lines of the block container at c
abbrev pub items_of : List BoxNode → ℕ → List Item
items_of boxes c = items_below boxes c (c + 1) (drop (c + 1) boxes)
