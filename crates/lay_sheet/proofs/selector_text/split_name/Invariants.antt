use Rattle.std.proofs.Common.{◌≡◌, ◌++◌, take, drop}
use Rattle.lay_values.specs.Numbers.{leading, behind}
use Rattle.lay_sheet.specs.SelectorTexts.{is_name_part}
use Rattle.lay_sheet.proofs.selector_text.split_name.Given as goal

abbrev pub invariant-loop-i : goal.invariant-loop-i
invariant-loop-i l = record {
  name : leading is_name_part l.text ≡ take l.i l.text ++ leading is_name_part (drop l.i l.text);
  rest : behind is_name_part l.text ≡ behind is_name_part (drop l.i l.text);
}
