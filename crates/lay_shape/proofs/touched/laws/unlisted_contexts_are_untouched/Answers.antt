use Rattle.lay_shape.proofs.TouchedLemmas.TouchedLaws.{unlisted_contexts_are_untouched_lem}
use Rattle.lay_shape.proofs.touched.laws.unlisted_contexts_are_untouched.Goals as goal

pub returns : goal.returns
returns c = unlisted_contexts_are_untouched_lem
