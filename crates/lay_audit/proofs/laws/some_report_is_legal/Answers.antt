use Rattle.lay_audit.proofs.LegalThere.{some_report_is_legal}
use Rattle.lay_audit.proofs.laws.some_report_is_legal.Goals as goal

pub returns : goal.returns
returns c = some_report_is_legal c.one_solution.ensures
