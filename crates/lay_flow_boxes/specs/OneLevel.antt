-- 9.2.1 of CSS 2.2: "A block container box either contains only block-level boxes or .. contains only inline-level boxes."
-- Where that is so of the boxes of a formatting context, the same block boxes hold lines for preferred widths (10.3.5) as for
-- block flow (9.4.1).
use Rattle.std.specs.Prelude.{ℕ, ◌≡◌, ◌+◌, ◌<◌, true, false, List, length, drop}
use Rattle.lay_box_tree.specs.declared.box_tree.BoxNode.{BoxNode}
use Rattle.lay_box_tree.specs.Roles.{role_at}
use Rattle.lay_measure.specs.Children.{holds_lines}
use Rattle.lay_measure.specs.MeasureInValue.{MeasureInValue}
use Rattle.lay_measure.specs.PreferredWidths.{children}
use Rattle.lay_box_tree.specs.ContextBoxes.{AreContextBoxes}
use Rattle.lay_flow_boxes.specs.declared.inline_containers.Level.TheVariants.{Block as block, Inline as inline}
use Rattle.lay_flow_boxes.specs.InlineContainers.{holds, is_block_box, is_inline_container}
use Rattle.lay_flow_boxes.specs.LineItems.{AreHeldByOthers}

abbrev pub HoldOneLevel : List BoxNode → Type 0
HoldOneLevel boxes = (c : ℕ) → holds inline boxes c (length boxes) ≡ true → holds block boxes c (length boxes) ≡ false

abbrev pub WidthsAgreeOnLines : Type 0
WidthsAgreeOnLines = (m : MeasureInValue) (c : ℕ) → AreContextBoxes m.boxes → AreHeldByOthers m.boxes → HoldOneLevel m.boxes
    → c < length m.boxes → is_block_box (role_at m.boxes c) ≡ true
    → holds_lines (children m c (c + 1) (drop (c + 1) m.boxes)) ≡ is_inline_container m.boxes c
