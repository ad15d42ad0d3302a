use Rattle.lay_audit.proofs.VerdictLaws.{one_verdict}
use Rattle.lay_audit.proofs.laws.one_verdict.Goals as goal

pub returns : goal.returns
returns c = one_verdict
