use Rattle.lay_lines.specs.Content.LineContents.{LineFloatWithin}
use Rattle.lay_lines.proofs.ContentLemmas.AllLists.{AllTo}
use Rattle.lay_lines.proofs.content.bounds.are_floats_within.Given as goal

abbrev pub invariant-loop-float : goal.invariant-loop-float
invariant-loop-float l = AllTo LineFloatWithin l.floats l.float-index
