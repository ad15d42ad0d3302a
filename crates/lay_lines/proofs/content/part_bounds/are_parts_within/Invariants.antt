use Rattle.lay_lines.specs.Content.LineContents.{PartWithin}
use Rattle.lay_lines.proofs.ContentLemmas.AllLists.{AllTo}
use Rattle.lay_lines.proofs.content.part_bounds.are_parts_within.Given as goal

abbrev pub invariant-loop-part : goal.invariant-loop-part
invariant-loop-part l = AllTo PartWithin l.parts l.part-index
