use Rattle.lay_values.specs.Words.{word_name, all_words}
use Rattle.lay_values.proofs.Narrowed.{find-begun}
use Rattle.lay_values.proofs.words.word_of.Goals as goal

pub loop-word-init : goal.loop-word-init
loop-word-init c = rw (c.beginning_with-words.ensures, c.first_letter.ensures) (find-begun word_name c.args.text.now all_words)
