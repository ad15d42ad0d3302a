use Rattle.std.proofs.Common.{◌++◌, List, length}
use Rattle.lay_sheet.specs.Sheets.{RuleValue, AreStatements}
use Rattle.lay_sheet.proofs.sheet.statements.Given as goal

abbrev pub invariant-loop-rest : goal.invariant-loop-rest
invariant-loop-rest l =
    (rules : List RuleValue) → AreStatements l.rest rules → AreStatements l.text (l.rules.items ++ rules)

abbrev pub decreases-loop-rest : goal.decreases-loop-rest
decreases-loop-rest l = length l.rest
