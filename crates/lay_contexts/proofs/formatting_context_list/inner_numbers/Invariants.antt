use Rattle.std.proofs.Common.{◌≡◌, ◌∷◌, [], map, slice_index_or, take}
use Rattle.lay_contexts.specs.FormattingContextList.{inner_number}
use Rattle.lay_contexts.proofs.formatting_context_list.inner_numbers.Given as goal

abbrev pub invariant-loop-a : goal.invariant-loop-a
invariant-loop-a l = l.numbers.items ≡ 0 ∷ map (inner_number l.contexts l.i) (take l.a (slice_index_or l.parting.at_home l.r []))
