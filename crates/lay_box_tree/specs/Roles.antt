-- What a box is in the formatting context that it stands in: a block box in normal flow (9.4.1), a solid box, which
-- floats don't overlap (9.5), a float (9.5.1), an anchor, which stands for an absolute or fixed box and takes no room
-- (9.6), something in lines (9.4.2), or a part of a table, which its table places (17.5). It is read off the box alone,
-- but for the context's own box, whose role is in the context around.
--
-- An anchor has the style of its parent box, and a wrapper that of the whole table. So whether a box floats is said by
-- its flow, and `clear` doesn't act on every box that has it.
use Rattle.std.specs.Prelude.{ℕ, ◌==◌, Bool, true, false, List, map, slice_index_or, if◌then◌else◌}
use Rattle.lay_style.specs.declared.style_words.Clear.{Clear}
use Rattle.lay_style.specs.declared.style_words.Clear.TheVariants as clear
use Rattle.lay_style.specs.declared.style_words.Float.{Float}
use Rattle.lay_style.specs.declared.style_words.Float.TheVariants as float
use Rattle.lay_box_tree.specs.Kinds.{is_wrapper}
use Rattle.lay_box_tree.specs.declared.box_role.Role.{Role}
use Rattle.lay_box_tree.specs.declared.box_role.Role.TheVariants as role
use Rattle.lay_box_tree.specs.declared.box_tree.BoxKind.{BoxKind}
use Rattle.lay_box_tree.specs.declared.box_tree.BoxKind.TheVariants as kind
use Rattle.lay_box_tree.specs.declared.box_tree.BoxNode.{BoxNode}
use Rattle.lay_box_tree.specs.declared.box_tree.Flow.{Flow}
use Rattle.lay_box_tree.specs.declared.box_tree.Flow.TheVariants.{InFlow, Floating, Absolute}

-- A block box that establishes no formatting context goes on with the one around; one that does is solid, and so are
-- the wrapper of a table and a block-level replaced element. What they are inline, is atomic (9.2.2).
abbrev pub role_of_kind : Bool → BoxKind → Role
role_of_kind inner kind.Block = if inner then role.Solid else role.Block
role_of_kind inner kind.Wrapper = role.Solid
role_of_kind inner (kind.Replaced w h inline) = if inline then role.Atomic else role.Solid
role_of_kind inner kind.InlineBlock = role.Atomic
role_of_kind inner kind.InlineWrapper = role.Atomic
role_of_kind inner kind.Inline = role.Inline
role_of_kind inner (kind.Text text) = role.Text
role_of_kind inner kind.Anchor = role.Anchor
role_of_kind inner kind.Table = role.TablePart
role_of_kind inner kind.Caption = role.TablePart
role_of_kind inner kind.RowGroup = role.TablePart
role_of_kind inner kind.HeaderGroup = role.TablePart
role_of_kind inner kind.FooterGroup = role.TablePart
role_of_kind inner kind.Row = role.TablePart
role_of_kind inner (kind.ColumnGroup span) = role.TablePart
role_of_kind inner (kind.Column span) = role.TablePart
role_of_kind inner (kind.Cell colspan rowspan) = role.TablePart

-- the role of what floats to this side, or otherwise has this role
abbrev pub float_role : Float → Role → Role
float_role float.None r = r
float_role float.Left r = role.LeftFloat
float_role float.Right r = role.RightFloat

abbrev pub role_in : Flow → Float → Role → Role
role_in InFlow side r = r
role_in Floating side r = float_role side r
role_in Absolute side r = r

abbrev pub role_of : BoxNode → Role
role_of b = role_in b.flow b.style.float (role_of_kind b.inner b.kind)

abbrev pub box_roles : List BoxNode → List Role
box_roles boxes = map role_of boxes

-- the role of the box at k
abbrev pub role_at : List BoxNode → ℕ → Role
role_at boxes k = if k == 0 then role.Own else slice_index_or (box_roles boxes) k role.Own

abbrev pub is_float : Role → Bool
is_float role.LeftFloat = true
is_float role.RightFloat = true
is_float _ = false

-- block-level boxes (9.2.1): what is a block box or solid, and floats, whose `display` 9.7 makes a block's
abbrev pub is_block_level : Role → Bool
is_block_level role.Block = true
is_block_level role.Solid = true
is_block_level r = is_float r

-- inline-level boxes (9.2.2)
abbrev pub is_inline_level : Role → Bool
is_inline_level role.Inline = true
is_inline_level role.Text = true
is_inline_level role.Atomic = true
is_inline_level _ = false

-- Boxes in normal flow (9.4): in the context's formatting context, or in lines.
abbrev pub is_role_in_flow : Role → Bool
is_role_in_flow role.Block = true
is_role_in_flow role.Solid = true
is_role_in_flow r = is_inline_level r

-- what `clear` says for a box: on a table it is used on the table box in the wrapper (17.4), where nothing floats
abbrev pub clear_of_box : BoxNode → Clear
clear_of_box b = if is_wrapper b.kind then clear.None else b.style.clear

abbrev pub box_clears : List BoxNode → List Clear
box_clears boxes = map clear_of_box boxes

-- The sides that the box at k clears. 9.5.2, `clear`: "Applies to: block-level elements".
abbrev pub clear_at : List BoxNode → ℕ → Clear
clear_at boxes k = if is_block_level (role_at boxes k) then slice_index_or (box_clears boxes) k clear.None else clear.None
