use Rattle.lay_audit.proofs.CheckLemmas.Lines.{yes_is_for_legal_reports_lem}
use Rattle.lay_audit.proofs.check.laws.yes_is_for_legal_reports.Goals as goal

pub returns : goal.returns
returns c = yes_is_for_legal_reports_lem c.yes_is_legal.ensures
