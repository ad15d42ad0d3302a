use Rattle.lay_abspos.proofs.SomeAbsoluteBox.{some_own_place_lem}
use Rattle.lay_abspos.proofs.place_laws.some_own_place.Goals as goal

pub returns : goal.returns
returns c = some_own_place_lem
