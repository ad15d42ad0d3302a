use Rattle.std.proofs.Common.{◌∙◌}
use Rattle.lay_line_items.proofs.PlainWords.{all_gathered}
use Rattle.lay_line_items.proofs.plain_texts.plain_gathered.Goals as goal

pub returns : goal.returns
returns c = c.new.ensures ∙ all_gathered c.args.face.now c.args.setting _ _ _ c.requires.plain c.loop-from-test.false c.loop-from.invariant.0
