use Rattle.std.proofs.Common.{◌≡◌, ◌++◌, filter}
use Rattle.lay_boxgen.specs.BrokenInlines.{is_no_text_box}
use Rattle.lay_boxgen.proofs.broken_inlines.put_but_texts.Given as goal

abbrev pub invariant-loop-child : goal.invariant-loop-child
invariant-loop-child l = l.out.items ++ filter is_no_text_box l.child-iterator.rest.items ≡ l.fn.out.items ++ filter is_no_text_box l.fn.boxes.items
