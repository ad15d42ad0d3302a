use Rattle.std.proofs.Common.{◌≡◌, ◌++◌, filter}
use Rattle.lay_boxgen.specs.TableWrappers.{is_caption_box, is_no_caption_box}
use Rattle.lay_boxgen.proofs.table_wrappers.captions_and_table.Given as goal

abbrev pub invariant-loop-child : goal.invariant-loop-child
invariant-loop-child l =
    (l.captions.items ++ filter is_caption_box l.child-iterator.rest.items ≡ filter is_caption_box l.fn.children.items)
    × (l.parts.items ++ filter is_no_caption_box l.child-iterator.rest.items ≡ filter is_no_caption_box l.fn.children.items)
