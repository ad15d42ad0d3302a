use Rattle.std.proofs.Common.{◌≡◌, ◌++◌, take, drop}
use Rattle.lay_audit.specs.Lines.{behind_line, first_line}
use Rattle.lay_audit.proofs.comparing.split_line.Given as goal

abbrev pub invariant-loop-i : goal.invariant-loop-i
invariant-loop-i l = record {
  first : first_line l.text ≡ take l.i l.text ++ first_line (drop l.i l.text);
  rest : behind_line l.text ≡ behind_line (drop l.i l.text);
}
