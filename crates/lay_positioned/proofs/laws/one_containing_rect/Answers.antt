use Rattle.lay_positioned.proofs.OneSetting.{one_containing_rect_lem}
use Rattle.lay_positioned.proofs.laws.one_containing_rect.Goals as goal

pub returns : goal.returns
returns c = one_containing_rect_lem
