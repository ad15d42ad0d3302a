use Rattle.std.proofs.Common.{◌≡◌, ◌++◌, [], false}
use Rattle.lay_boxgen.specs.BrokenInlines.{parts_from}
use Rattle.lay_boxgen.proofs.broken_inlines.put_parts.Given as goal

abbrev pub invariant-loop-child : goal.invariant-loop-child
invariant-loop-child l =
    l.out.items ++ parts_from l.facts l.part.after_block l.part.held.items l.child-iterator.rest.items
    ≡ l.fn.out.items ++ parts_from l.facts false [] l.fn.children.items
