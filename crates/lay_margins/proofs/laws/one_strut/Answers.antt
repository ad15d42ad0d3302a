use Rattle.lay_margins.proofs.Margins.{one_strut_lem}
use Rattle.lay_margins.proofs.laws.one_strut.Goals as goal

pub returns : goal.returns
returns c = one_strut_lem
