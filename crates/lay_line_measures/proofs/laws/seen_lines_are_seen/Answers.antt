use Rattle.lay_line_measures.proofs.SeenRows.{seen_lines_lem}
use Rattle.lay_line_measures.proofs.laws.seen_lines_are_seen.Goals as goal

pub returns : goal.returns
returns c = seen_lines_lem
