use Rattle.lay_boxgen.proofs.WholeParts.{parts_are_whole}
use Rattle.lay_boxgen.proofs.laws.parts_are_whole.Goals as goal

pub returns : goal.returns
returns c = parts_are_whole
