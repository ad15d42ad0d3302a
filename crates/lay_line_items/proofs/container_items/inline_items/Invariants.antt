use Rattle.std.proofs.Common.{◌≡◌, reverse}
use Rattle.lay_line_items.specs.InlineItems.{items_of}
use Rattle.lay_line_items.specs.OpenBoxes.{Fall, all_items}
use Rattle.lay_line_items.proofs.container_items.inline_items.Given as goal

abbrev pub invariant-loop-place : goal.invariant-loop-place
invariant-loop-place l =
    (all_items l.boxes l.below.container l.below.items.items (reverse l.below.inlines.items) l.place ≡ items_of l.boxes l.container)
    × Fall l.below.container (reverse l.below.inlines.items) l.place
    × (l.below.container ≡ l.container)
