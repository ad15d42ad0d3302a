use Rattle.lay_lines.proofs.OneLines.{one_lines_lem}
use Rattle.lay_lines.proofs.laws.one_lines.Goals as goal

pub returns : goal.returns
returns c = one_lines_lem c.one_list_of_rows.ensures
