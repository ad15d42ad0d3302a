use Rattle.lay_shape.proofs.TouchedLemmas.TouchedLaws.{one_list_of_touched_keys_lem}
use Rattle.lay_shape.proofs.touched.laws.one_list_of_touched_keys.Goals as goal

pub returns : goal.returns
returns c = one_list_of_touched_keys_lem
