-- Which formatting contexts are those of absolutely positioned elements (CSS 2.2, 9.6): their own box is out of flow, and in the
-- one around them an anchor stands for it. Where `position` is `fixed`, the viewport is what they are positioned by (9.6.1).
use Rattle.std.specs.Prelude.{ℕ, Bool, true, false, List, map, slice_index_or}
use Rattle.lay_style.specs.declared.style_words.Position.{Position}
use Rattle.lay_style.specs.declared.style_words.Position.TheVariants as position
use Rattle.lay_box_tree.specs.declared.box_tree.BoxNode.{BoxNode}
use Rattle.lay_box_tree.specs.declared.box_tree.Flow.{Flow}
use Rattle.lay_box_tree.specs.declared.box_tree.Flow.TheVariants.{Absolute}
use Rattle.lay_contexts.specs.FormattingContexts.{FormattingContext, boxes_in}

abbrev pub is_absolute_flow : Flow → Bool
is_absolute_flow Absolute = true
is_absolute_flow _ = false

abbrev pub is_fixed_position : Position → Bool
is_fixed_position position.Fixed = true
is_fixed_position _ = false

-- the own box of these boxes, the first one, is absolutely positioned
abbrev pub is_own_absolute : List BoxNode → Bool
is_own_absolute boxes = slice_index_or (map (λ b. is_absolute_flow b.flow) boxes) 0 false

abbrev pub is_own_fixed : List BoxNode → Bool
is_own_fixed boxes = slice_index_or (map (λ b. is_fixed_position b.style.position) boxes) 0 false

-- the formatting context with the number i is absolutely positioned, and is fixed
abbrev pub is_absolute : List FormattingContext → ℕ → Bool
is_absolute contexts i = is_own_absolute (boxes_in contexts i)

abbrev pub is_fixed : List FormattingContext → ℕ → Bool
is_fixed contexts i = is_own_fixed (boxes_in contexts i)
