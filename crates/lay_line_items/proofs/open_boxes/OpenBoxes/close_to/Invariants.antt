use Rattle.std.proofs.Common.{◌≡◌, reverse, vec_len}
use Rattle.lay_line_items.specs.OpenBoxes.{Fall, all_items}
use Rattle.lay_line_items.proofs.open_boxes.OpenBoxes.close_to.Given as goal

abbrev pub invariant-loop-top : goal.invariant-loop-top
invariant-loop-top l =
    (all_items l.boxes l.self.container l.self.items.items (reverse l.self.inlines.items) l.place
    ≡ all_items l.boxes l.fn.self.container l.fn.self.items.items (reverse l.fn.self.inlines.items) l.place)
    × Fall l.self.container (reverse l.self.inlines.items) l.place
    × (l.self.container ≡ l.fn.self.container)

abbrev pub decreases-loop-top : goal.decreases-loop-top
decreases-loop-top l = vec_len l.self.inlines
