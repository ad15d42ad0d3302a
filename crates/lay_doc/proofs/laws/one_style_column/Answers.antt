use Rattle.lay_doc.proofs.OneStyles.{one_style_column_lem}
use Rattle.lay_doc.proofs.laws.one_style_column.Goals as goal

pub returns : goal.returns
returns c = one_style_column_lem
