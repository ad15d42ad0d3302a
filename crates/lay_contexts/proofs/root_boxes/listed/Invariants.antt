use Rattle.std.proofs.Common.{◌≡◌, ◌∷◌, map, take, [], slice_index_or}
use Rattle.lay_contexts.specs.FormattingBoxes.{as_member, as_own}
use Rattle.lay_box_tree.specs.BoxColumns.{box_at}
use Rattle.lay_contexts.proofs.root_boxes.listed.Given as goal

abbrev pub invariant-loop-a : goal.invariant-loop-a
invariant-loop-a l = l.items.items ≡ as_own (box_at l.boxes l.r) ∷ map (as_member l.boxes l.parting.homes) (take l.a (slice_index_or l.parting.at_home l.r []))
