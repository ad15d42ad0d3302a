use Rattle.lay_context.proofs.GivenFacts.{inner_within}
use Rattle.lay_context.proofs.given.inner_at.Goals as goal

pub flow_number-number-requires : goal.flow_number-number-requires
flow_number-number-requires g c =
    rw (c.inner-inner.ensures, c.formatting_context.ensures.context)
    (inner_within c.args.at.now.contexts.now c.args.at.now.number c.args.k c.formatting_context.ensures.are c.args.at.now.within c.requires)
