use Rattle.lay_context.proofs.ListedContexts.{layouts_are_short_lem}
use Rattle.lay_context.proofs.laws.layouts_are_short.Goals as goal

pub returns : goal.returns
returns c = layouts_are_short_lem
