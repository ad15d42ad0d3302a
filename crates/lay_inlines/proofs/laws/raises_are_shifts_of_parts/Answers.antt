use Rattle.lay_inlines.proofs.PartRaises.{raises_lem}
use Rattle.lay_inlines.proofs.laws.raises_are_shifts_of_parts.Goals as goal

pub returns : goal.returns
returns c = raises_lem
