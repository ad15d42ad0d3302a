use Rattle.std.proofs.Common.{◌≡◌, ◌++◌, length}
use Rattle.lay_sheet.specs.PlainText.{plain_from, plain_text}
use Rattle.lay_sheet.proofs.plain.plain_text.Given as goal

abbrev pub invariant-loop-rest : goal.invariant-loop-rest
invariant-loop-rest l = l.seen.items ++ plain_from l.place l.rest ≡ plain_text l.text

abbrev pub decreases-loop-rest : goal.decreases-loop-rest
decreases-loop-rest l = length l.rest
