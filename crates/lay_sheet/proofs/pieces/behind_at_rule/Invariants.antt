use Rattle.std.proofs.Common.{◌≡◌, drop}
use Rattle.lay_sheet.specs.Pieces.{behind_at_rule}
use Rattle.lay_sheet.proofs.pieces.behind_at_rule.Given as goal

abbrev pub invariant-loop-i : goal.invariant-loop-i
invariant-loop-i l = behind_at_rule l.text ≡ behind_at_rule (drop l.i l.text)
