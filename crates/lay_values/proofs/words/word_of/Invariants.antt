use Rattle.std.proofs.Common.{◌≡◌, find, drop}
use Rattle.std.specs.Str.{str_eq_ignore_ascii_case}
use Rattle.lay_values.specs.Words.{word_name, word_of}
use Rattle.lay_values.proofs.words.word_of.Given as goal

abbrev pub invariant-loop-word : goal.invariant-loop-word
invariant-loop-word l = find (λ w. str_eq_ignore_ascii_case (word_name w) l.text) (drop l.word-index l.words) ≡ word_of l.text
