use Rattle.lay_audit.proofs.CheckLemmas.Lines.{one_verdict_line_lem}
use Rattle.lay_audit.proofs.check.laws.one_verdict_line.Goals as goal

pub returns : goal.returns
returns c = one_verdict_line_lem c.one_verdict.ensures
