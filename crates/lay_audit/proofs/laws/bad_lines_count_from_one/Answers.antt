use Rattle.lay_audit.proofs.LegalThere.{bad_lines_count_from_one}
use Rattle.lay_audit.proofs.laws.bad_lines_count_from_one.Goals as goal

pub returns : goal.returns
returns c = bad_lines_count_from_one c.one_solution.ensures
