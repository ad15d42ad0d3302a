use Rattle.std.proofs.Common.{◌≡◌, ◌++◌, take, drop}
use Rattle.lay_values.specs.Numbers.{leading, behind}
use Rattle.lay_values.specs.Reading.{is_of_word}
use Rattle.lay_values.proofs.reading.split_word.Given as goal

abbrev pub invariant-loop-i : goal.invariant-loop-i
invariant-loop-i l = record {
  word : leading is_of_word l.text ≡ take l.i l.text ++ leading is_of_word (drop l.i l.text);
  rest : behind is_of_word l.text ≡ behind is_of_word (drop l.i l.text);
}
