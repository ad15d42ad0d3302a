use Rattle.lay_abspos.proofs.OnePlace.{one_own_place_lem}
use Rattle.lay_abspos.proofs.place_laws.one_own_place.Goals as goal

pub returns : goal.returns
returns c = one_own_place_lem
