use Rattle.lay_contexts.proofs.EditedLemmas.StayingOutward.{unreached_contexts_stay_outward}
use Rattle.lay_contexts.proofs.edited.laws.unreached_contexts_stay_outward.Goals as goal

pub returns : goal.returns
returns c = unreached_contexts_stay_outward
