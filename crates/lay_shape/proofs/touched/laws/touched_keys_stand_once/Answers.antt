use Rattle.lay_shape.proofs.TouchedLemmas.TouchedLaws.{touched_keys_stand_once_lem}
use Rattle.lay_shape.proofs.touched.laws.touched_keys_stand_once.Goals as goal

pub returns : goal.returns
returns c = touched_keys_stand_once_lem
