use Rattle.lay_shape.proofs.TouchedLemmas.TouchedLaws.{listed_keys_are_of_touched_contexts_lem}
use Rattle.lay_shape.proofs.touched.laws.listed_keys_are_of_touched_contexts.Goals as goal

pub returns : goal.returns
returns c = listed_keys_are_of_touched_contexts_lem
