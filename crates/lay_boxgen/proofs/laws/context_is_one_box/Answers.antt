use Rattle.lay_boxgen.proofs.WholeParts.{context_is_one_box}
use Rattle.lay_boxgen.proofs.laws.context_is_one_box.Goals as goal

pub returns : goal.returns
returns c = context_is_one_box
