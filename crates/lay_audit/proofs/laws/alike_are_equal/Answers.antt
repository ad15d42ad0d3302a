use Rattle.lay_audit.proofs.VerdictLaws.{alike_are_equal}
use Rattle.lay_audit.proofs.laws.alike_are_equal.Goals as goal

pub returns : goal.returns
returns c = alike_are_equal
