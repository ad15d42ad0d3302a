use Rattle.std.proofs.Common.{◌≡◌, ◌++◌, take, drop}
use Rattle.lay_values.specs.Numbers.{is_digit, leading, behind}
use Rattle.lay_values.proofs.numbers.split_digits.Given as goal

abbrev pub invariant-loop-i : goal.invariant-loop-i
invariant-loop-i l = record {
  digits : leading is_digit l.text ≡ take l.i l.text ++ leading is_digit (drop l.i l.text);
  rest : behind is_digit l.text ≡ behind is_digit (drop l.i l.text);
}
