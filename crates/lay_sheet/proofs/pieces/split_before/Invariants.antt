use Rattle.std.proofs.Common.{◌≡◌, ◌++◌, take, drop}
use Rattle.lay_values.specs.Numbers.{leading, behind}
use Rattle.lay_sheet.specs.Pieces.{is_other}
use Rattle.lay_sheet.proofs.pieces.split_before.Given as goal

abbrev pub invariant-loop-i : goal.invariant-loop-i
invariant-loop-i l = record {
  before : leading (is_other l.byte) l.text ≡ take l.i l.text ++ leading (is_other l.byte) (drop l.i l.text);
  rest : behind (is_other l.byte) l.text ≡ behind (is_other l.byte) (drop l.i l.text);
}
