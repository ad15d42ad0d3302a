use Rattle.std.proofs.Common.{◌∙◌, sym}
use Rattle.lay_line_items.proofs.Cited.{plain_at}
use Rattle.lay_line_items.proofs.PlainWords.{between_words, space_stands, word_over}
use Rattle.lay_line_items.proofs.plain_texts.part_at.Goals as goal

pub returns-then-is_in_word-clause-gathered : goal.returns-then-is_in_word-clause-gathered
returns-then-is_in_word-clause-gathered c =
    c.word_at.ensures.gathered
    ∙ word_over c.args.face.now c.args.setting c.args.text.now _ _ (λ below.
    let plain = plain_at c.args.text.now c.word_at.result.to 0 below c.requires.plain in between_words _ plain.0 plain.1 (c.word_at.ensures.ends below))

pub ascii_width-requires-clause-ascii : goal.ascii_width-requires-clause-ascii
ascii_width-requires-clause-ascii c = (plain_at c.args.text.now c.args.from 0 c.requires.inside c.requires.plain).0

pub returns-clause-gathered : goal.returns-clause-gathered
returns-clause-gathered c =
    let plain = plain_at c.args.text.now c.args.from 0 c.requires.inside c.requires.plain in
    space_stands c.args.face.now c.args.setting c.args.text.now _ _ c.requires.inside c.ascii_width.ensures.value (between_words _ plain.0 plain.1 (sym c.if-is_in_word.ensures))
