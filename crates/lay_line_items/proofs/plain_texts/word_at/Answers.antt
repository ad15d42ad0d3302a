use Rattle.std.proofs.Common.{◌∙◌, arith, false, slice_index, sym}
use Rattle.std.proofs.lemmas.Int.{ints}
use Rattle.lay_line_items.proofs.PlainWords.{clean_word, in_word, letter, small_both, word_begins, word_more}
use Rattle.lay_line_items.proofs.plain_texts.word_at.Goals as goal

pub letter_width-width-requires-clause-ascii : goal.letter_width-width-requires-clause-ascii
letter_width-width-requires-clause-ascii c = (in_word (slice_index c.args.text.now c.args.from) c.requires.begins).0

pub letter_width-width-requires-clause-space : goal.letter_width-width-requires-clause-space
letter_width-width-requires-clause-space c = (letter (slice_index c.args.text.now c.args.from) c.requires.begins).0

pub letter_width-width-requires-clause-linefeed : goal.letter_width-width-requires-clause-linefeed
letter_width-width-requires-clause-linefeed c = (letter (slice_index c.args.text.now c.args.from) c.requires.begins).1

pub loop-to-init : goal.loop-to-init
loop-to-init c =
    let near = c.letter_width-width.ensures.near in (
      word_begins c.args.face.now c.args.setting c.args.text.now _ _ c.requires.inside c.letter_width-width.ensures.value (in_word (slice_index c.args.text.now c.args.from) c.requires.begins).1,
      (λ before. clean_word c.args.text.now c.args.from before c.requires.inside c.requires.begins),
      (omega (arith, ints, near.0), omega (arith, ints, near.1)),
    )

pub letter_width-requires-clause-ascii : goal.letter_width-requires-clause-ascii
letter_width-requires-clause-ascii c = (in_word (slice_index c.args.text.now c.loop-to.to) (sym c.if-not-is_in_word.ensures)).0

pub letter_width-requires-clause-space : goal.letter_width-requires-clause-space
letter_width-requires-clause-space c = (letter (slice_index c.args.text.now c.loop-to.to) (sym c.if-not-is_in_word.ensures)).0

pub letter_width-requires-clause-linefeed : goal.letter_width-requires-clause-linefeed
letter_width-requires-clause-linefeed c = (letter (slice_index c.args.text.now c.loop-to.to) (sym c.if-not-is_in_word.ensures)).1

pub sum-width-requires : goal.sum-width-requires
sum-width-requires c = small_both c.loop-to.to _ _ (omega (arith, c.loop-to-test.true, c.requires.short)) c.loop-to.invariant.2 c.letter_width.ensures.near

pub loop-to-preserved : goal.loop-to-preserved
loop-to-preserved c =
    let is = sym c.if-not-is_in_word.ensures in
    let small = small_both c.loop-to.to _ _ (omega (arith, c.loop-to-test.true, c.requires.short)) c.loop-to.invariant.2 c.letter_width.ensures.near in
    let near = c.letter_width.ensures.near in
    let before = c.loop-to.invariant.2 in (
      c.loop-to.invariant.0 ∙ word_more c.args.face.now c.args.setting c.args.text.now _ _ _ _ _ c.loop-to-test.true c.letter_width.ensures.value (in_word (slice_index c.args.text.now c.loop-to.to) is).1 small c.sum-width.ensures,
      (λ b rest. c.loop-to.invariant.1 b (clean_word c.args.text.now c.loop-to.to false c.loop-to-test.true is rest)),
      (omega (arith, ints, near.0, before.0, c.sum-width.ensures), omega (arith, ints, near.1, before.1, c.sum-width.ensures)),
    )
