use Rattle.lay_shape.proofs.TouchedLemmas.TouchedLaws.{touched_contexts_are_listed_lem}
use Rattle.lay_shape.proofs.touched.laws.touched_contexts_are_listed.Goals as goal

pub returns : goal.returns
returns c = touched_contexts_are_listed_lem
