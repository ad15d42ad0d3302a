use Rattle.std.proofs.Common.{◌∙◌}
use Rattle.lay_line_items.proofs.PlainWords.{all_gathered, clean_end, clean_plain}
use Rattle.lay_line_items.proofs.plain_texts.clean_gathered.Goals as goal

pub returns : goal.returns
returns c =
    let clean = c.loop-from.invariant.2 (clean_end c.args.text.now c.loop-from.from c.loop-from.after_space c.loop-from-test.false) in
    (clean, c.new.ensures ∙ all_gathered c.args.face.now c.args.setting _ _ _ (clean_plain _ _ clean) c.loop-from-test.false c.loop-from.invariant.0)
