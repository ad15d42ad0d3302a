use Rattle.std.proofs.Common.{◌≡◌, drop, reverse, take}
use Rattle.lay_contexts.specs.ListedContexts.{boxes_of_places}
use Rattle.lay_contexts.proofs.context_list.boxes_of.Given as goal

-- the boxes of the first places are taken, and those of the others are left
abbrev pub invariant-loop : goal.invariant-loop
invariant-loop l =
    (l.all.items ≡ boxes_of_places l.doc.nodes l.computed (take l.counter l.places))
    × (reverse l.trees.items ≡ boxes_of_places l.doc.nodes l.computed (drop l.counter l.places))
