use Rattle.lay_audit.proofs.VerdictLaws.{yes_is_legal}
use Rattle.lay_audit.proofs.laws.yes_is_legal.Goals as goal

pub returns : goal.returns
returns c = yes_is_legal
