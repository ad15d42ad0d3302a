use Rattle.lay_contexts.specs.Listed.{AreListedTo}
use Rattle.lay_contexts.specs.Partings.{homes_of}
use Rattle.lay_contexts.proofs.formatting_context_list.list_context.Given as goal

abbrev pub invariant-loop-r : goal.invariant-loop-r
invariant-loop-r l = AreListedTo l.contexts (homes_of l.partings) l.items.items l.i l.r
