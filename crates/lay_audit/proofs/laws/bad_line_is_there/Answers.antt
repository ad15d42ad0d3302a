use Rattle.lay_audit.proofs.VerdictLaws.{bad_line_is_there}
use Rattle.lay_audit.proofs.laws.bad_line_is_there.Goals as goal

pub returns : goal.returns
returns c = bad_line_is_there
