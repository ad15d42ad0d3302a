use Rattle.std.proofs.Common.{◌≡◌, ◌++◌, take, drop}
use Rattle.lay_values.specs.Numbers.{leading, behind}
use Rattle.lay_values.specs.Reading.{is_of_number}
use Rattle.lay_values.proofs.reading.split_number.Given as goal

abbrev pub invariant-loop-i : goal.invariant-loop-i
invariant-loop-i l = record {
  number : leading is_of_number l.text ≡ take l.i l.text ++ leading is_of_number (drop l.i l.text);
  suffix : behind is_of_number l.text ≡ behind is_of_number (drop l.i l.text);
}
