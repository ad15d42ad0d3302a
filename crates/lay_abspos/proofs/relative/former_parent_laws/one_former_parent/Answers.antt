use Rattle.lay_abspos.proofs.RelativeLemmas.Nearest.{one_former_parent}
use Rattle.lay_abspos.proofs.relative.former_parent_laws.one_former_parent.Goals as goal

pub returns : goal.returns
returns c = one_former_parent
