use Rattle.lay_contexts.specs.Listed.{AreListedTo}
use Rattle.lay_contexts.specs.Partings.{homes_of}
use Rattle.lay_contexts.proofs.formatting_context_list.formatting_contexts.Given as goal

abbrev pub invariant-loop-i : goal.invariant-loop-i
invariant-loop-i l = AreListedTo l.contexts (homes_of l.partings.items) l.items.items l.i 0
