use Rattle.std.proofs.Common.{◌≡◌, ◌++◌, length, map}
use Rattle.std.specs.Arc.{arc_value}
use Rattle.std.specs.Vec.Iter.{into_iter_items, into_iter_len}
use Rattle.lay_contexts.proofs.context_list.shared.Given as goal

-- what is shared and what is left are all
abbrev pub invariant-loop-context : goal.invariant-loop-context
invariant-loop-context l =
    (into_iter_len l.context-iterator ≡ length (into_iter_items l.context-iterator))
    × (map arc_value l.all.items ++ into_iter_items l.context-iterator ≡ l.fn.items.items)
