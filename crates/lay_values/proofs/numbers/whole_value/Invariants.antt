use Rattle.std.proofs.Common.{◌≡◌, drop, true}
use Rattle.std.specs.List.{list_all}
use Rattle.lay_values.specs.Numbers.{is_digit, value_after}
use Rattle.lay_values.proofs.numbers.whole_value.Given as goal

abbrev pub invariant-loop-digit : goal.invariant-loop-digit
invariant-loop-digit l = record {
  goes_on : value_after l.value (drop l.digit-index l.digits) ≡ value_after 0 l.digits;
  digits : list_all is_digit (drop l.digit-index l.digits) ≡ true;
}
