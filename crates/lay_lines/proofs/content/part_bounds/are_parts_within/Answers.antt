use Rattle.lay_lines.specs.Content.LineContents.{PartWithin}
use Rattle.lay_lines.proofs.ContentLemmas.AllLists.{all_more}
use Rattle.lay_lines.proofs.content.part_bounds.are_parts_within.Goals as goal

pub loop-part-preserved : goal.loop-part-preserved
loop-part-preserved c = all_more PartWithin c.args.parts.now c.loop-part.part-index _ c.loop-part.invariant (c.is_part_within.ensures.0 c.if-not-is_part_within.false)
