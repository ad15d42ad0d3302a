use Rattle.std.proofs.Common.{◌≡◌, ◌-◌, ◌^◌, take}
use Rattle.std.specs.Prelude.{min}
use Rattle.lay_sheet.specs.Sheets.{selector_count}
use Rattle.lay_sheet.proofs.sheet.count_of.Given as goal

abbrev pub invariant-loop-rule : goal.invariant-loop-rule
invariant-loop-rule l = l.count ≡ min (selector_count (take l.rule-index l.rules)) (2 ^ 64 - 1)
