use Rattle.std.proofs.Common.{◌∙◌, arith}
use Rattle.lay_line_items.proofs.PlainWords.{space_parts, word_over}
use Rattle.lay_line_items.proofs.plain_texts.clean_part_at.Goals as goal
use Rattle.lay_line_items.proofs.plain_texts.clean_part_at.Goals.{else-word-text-via-then-word-text+else-text-word-ne32, else-word-text-via-else-word-text}

pub returns-then-is_in_word-clause-gathered : goal.returns-then-is_in_word-clause-gathered
returns-then-is_in_word-clause-gathered c =
    c.word_at-word.ensures.gathered
    ∙ word_over c.args.face.now c.args.setting c.args.text.now _ _ (λ below.
    elim c.else-word-text.branch [
      | else-word-text-via-then-word-text+else-text-word-ne32 w ↦ space_parts _ w.if-text-word-ne32.false
      | else-word-text-via-else-word-text w ↦ absurd (omega (arith, below, w.if-word-text.false))
    ])
