use Rattle.lay_lines.specs.Content.LineContents.{LineFloatWithin}
use Rattle.lay_lines.proofs.ContentLemmas.AllLists.{all_more}
use Rattle.lay_lines.proofs.content.bounds.are_floats_within.Goals as goal

pub loop-float-preserved : goal.loop-float-preserved
loop-float-preserved c = all_more LineFloatWithin c.args.floats.now c.loop-float.float-index _ c.loop-float.invariant (c.is_float_within.ensures.0 c.if-not-is_float_within.false)
