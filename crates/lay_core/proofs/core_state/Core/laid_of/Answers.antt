use Rattle.lay_core.proofs.core_state.Core.laid_of.Goals as goal

pub returns-clause-none : goal.returns-clause-none
returns-clause-none c = rw (← c.self.view_is) c.laid_of.ensures.none
