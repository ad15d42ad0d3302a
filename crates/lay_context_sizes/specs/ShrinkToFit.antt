-- Which own boxes may shrink to fit their content, so that preferred widths count: what floats (CSS 2.2, 10.3.5) or is inline-level
-- (10.3.9) with a width of `auto`, what is absolutely positioned (10.3.7), and each table of the automatic layout, whose columns are as
-- wide as their cells ask (17.5.2.2). A block in flow fills its containing block (10.3.3), a table of the fixed layout has a width of its
-- own, and a cell is as wide as its table says.
use Rattle.std.specs.Prelude.{Bool, true, false, not, List, slice_get, Option, None, Some}
use Rattle.lay_style.specs.declared.style.Style.{Style}
use Rattle.lay_box_tree.specs.declared.box_tree.BoxKind.{BoxKind}
use Rattle.lay_box_tree.specs.declared.box_tree.BoxKind.TheVariants as kind
use Rattle.lay_box_tree.specs.declared.box_tree.BoxNode.{BoxNode}
use Rattle.lay_box_tree.specs.declared.box_tree.Flow.{Flow}
use Rattle.lay_box_tree.specs.declared.box_tree.Flow.TheVariants.{Floating, InFlow}
use Rattle.lay_table_sizes.specs.TableLayouts.{has_width, is_fixed}

abbrev pub shrinks_in_flow : BoxKind → Style → Bool
shrinks_in_flow kind.InlineBlock s = not (has_width s.sizing.width)
shrinks_in_flow kind.Wrapper s = not (is_fixed s)
shrinks_in_flow kind.InlineWrapper s = not (is_fixed s)
shrinks_in_flow _ s = false

abbrev pub shrinks_floating : BoxKind → Style → Bool
shrinks_floating kind.Wrapper s = true
shrinks_floating kind.InlineWrapper s = true
shrinks_floating _ s = not (has_width s.sizing.width)

abbrev pub shrinks : Flow → BoxKind → Style → Bool
shrinks InFlow kind s = shrinks_in_flow kind s
shrinks Floating kind s = shrinks_floating kind s
shrinks _ kind s = true

abbrev pub box_shrinks : Option BoxNode → Bool
box_shrinks None = false
box_shrinks (Some b) = shrinks b.flow b.kind b.style

-- the own box of these boxes, the first one, may shrink to fit
abbrev pub shrinks_to_fit : List BoxNode → Bool
shrinks_to_fit boxes = box_shrinks (slice_get boxes 0)
