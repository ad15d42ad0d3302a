use Rattle.lay_contexts.proofs.NotedAround.{contexts_are_noted}
use Rattle.lay_contexts.proofs.laws.contexts_are_noted_around.Goals as goal

pub returns : goal.returns
returns c = contexts_are_noted
