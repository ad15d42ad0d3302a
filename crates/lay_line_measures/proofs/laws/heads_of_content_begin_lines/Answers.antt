use Rattle.lay_line_measures.proofs.Heads.{heads_begin_lem}
use Rattle.lay_line_measures.proofs.laws.heads_of_content_begin_lines.Goals as goal

pub returns : goal.returns
returns c = heads_begin_lem
