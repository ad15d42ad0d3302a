-- How nodes are painted. 9.9.1 and Appendix E, E.2: the root makes a stacking context, and so does a positioned node
-- whose `z-index` is a number; a fixed one with `auto` counts as one of level 0. Another positioned node makes none, "but any
-- positioned descendants and descendants which actually create a new stacking context" are of the context around it. Floats
-- and inline blocks and inline tables are painted "as if [they] generated a new stacking context" with the same exception;
-- so is a replaced element that is inline. The others are blocks, with the parts of tables, and inline boxes and texts.
use Rattle.std.specs.Prelude.{ℕ, ℤ, pos, Bool, true, false, ◌==◌, not, List, map, slice_index_or}
use Rattle.std.specs.Prelude.{Option, Some, None, unwrap_or, is_some, if◌then◌else◌}
use Rattle.lay_style.specs.declared.style.Style.{Style}
use Rattle.lay_style.specs.declared.style_words.Position.{Position}
use Rattle.lay_style.specs.declared.style_words.Position.TheVariants as position
use Rattle.lay_style.specs.declared.style_words.Display.{Display}
use Rattle.lay_style.specs.declared.style_words.Display.TheVariants as display
use Rattle.lay_style.specs.declared.style_lengths.ZIndex.{ZIndex}
use Rattle.lay_style.specs.declared.style_lengths.ZIndex.TheVariants as index
use Rattle.lay_style.specs.ComputedStyle.{style_at}
use Rattle.lay_style.specs.Positions.{is_positioned}
use Rattle.lay_doc.specs.declared.node.Node.{Node}
use Rattle.lay_doc.specs.declared.node.Kind.{Kind}
use Rattle.lay_doc.specs.declared.node.Kind.TheVariants as kind
use Rattle.lay_doc.specs.NewNodes.{is_text}
use Rattle.lay_boxgen.specs.Forms.{is_in_flow}
use Rattle.lay_boxgen.specs.Display.{is_floated, flow_of, used_display_of}
use Rattle.lay_hit.specs.declared.kinds.PaintKind.{PaintKind}
use Rattle.lay_hit.specs.declared.kinds.PaintKind.TheVariants.{Stacking, Layered, Float, Atomic, Block, Inline}

abbrev pub is_out_of_flow : Style → Bool
is_out_of_flow s = not (is_in_flow (flow_of s))

-- the level of the stacking context that a node of this position and `z-index` makes, if it makes one (9.9.1)
abbrev pub stack_level : Position → ZIndex → Option ℤ
stack_level position.Static z = None
stack_level position.Relative index.Auto = None
stack_level position.Absolute index.Auto = None
stack_level position.Fixed index.Auto = Some (pos 0)
stack_level position.Relative (index.Number n) = Some n
stack_level position.Absolute (index.Number n) = Some n
stack_level position.Fixed (index.Number n) = Some n

abbrev pub is_replaced : Kind → Bool
is_replaced (kind.Element colspan rowspan) = false
is_replaced kind.Text = false
is_replaced (kind.Replaced w h) = true

-- a node in flow, by its used `display`
abbrev pub kind_in_flow : Bool → Display → PaintKind
kind_in_flow replaced display.InlineBlock = Atomic
kind_in_flow replaced display.InlineTable = Atomic
kind_in_flow replaced display.Inline = if replaced then Atomic else Inline
kind_in_flow replaced _ = Block

abbrev pub paint_kind : Bool → Kind → Style → PaintKind
paint_kind is_root k s =
    if is_root then Stacking
    else (if is_text k then Inline
    else (if is_some (stack_level s.position s.z_index) then Stacking
    else (if is_positioned s.position then Layered
    else (if is_floated s.float then Float
    else kind_in_flow (is_replaced k) (used_display_of is_root k s)))))

abbrev pub is_stacking : PaintKind → Bool
is_stacking Stacking = true
is_stacking _ = false

abbrev pub is_layered : PaintKind → Bool
is_layered Layered = true
is_layered _ = false

abbrev pub is_float_paint : PaintKind → Bool
is_float_paint Float = true
is_float_paint _ = false

abbrev pub is_atomic_paint : PaintKind → Bool
is_atomic_paint Atomic = true
is_atomic_paint _ = false

abbrev pub is_block_paint : PaintKind → Bool
is_block_paint Block = true
is_block_paint _ = false

abbrev pub is_inline_paint : PaintKind → Bool
is_inline_paint Inline = true
is_inline_paint _ = false

-- it is painted as a whole, with what is in it
abbrev pub forms_group : PaintKind → Bool
forms_group Stacking = true
forms_group Layered = true
forms_group Float = true
forms_group Atomic = true
forms_group Block = false
forms_group Inline = false

-- the level of a stacking context; other nodes have 0
abbrev pub stacking_level_of : PaintKind → Style → ℤ
stacking_level_of k s = if is_stacking k then unwrap_or (stack_level s.position s.z_index) (pos 0) else pos 0

-- those of the node at a place
abbrev pub node_kind : List Node → ℕ → Kind
node_kind nodes k = slice_index_or (map (λ n. n.kind) nodes) k kind.Text

abbrev pub kind_at : List Node → List Style → ℕ → PaintKind
kind_at nodes styles k = paint_kind (k == 0) (node_kind nodes k) (style_at styles k)

abbrev pub level_at : List Node → List Style → ℕ → ℤ
level_at nodes styles k = stacking_level_of (kind_at nodes styles k) (style_at styles k)
