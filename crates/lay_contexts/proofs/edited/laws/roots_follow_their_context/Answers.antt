use Rattle.lay_contexts.proofs.EditedLemmas.StayingOutward.{roots_follow_their_context}
use Rattle.lay_contexts.proofs.edited.laws.roots_follow_their_context.Goals as goal

pub returns : goal.returns
returns c = roots_follow_their_context
