use Rattle.std.proofs.Common.{rules, ◌≡◌}
use Rattle.lay_contexts.specs.Contexts.{context_at}
use Rattle.lay_shape.proofs.BuildSteps.{inner_small}
use Rattle.lay_shape.proofs.needs.inner_at.Goals as goal

pub returns-clause-within : goal.returns-clause-within
returns-clause-within c =
    let is : c.inner.result.now ≡ (context_at c.args.contexts.now c.args.i).inner = search rules in
    rw is (inner_small c.args.contexts.now c.at.ensures.are c.args.i c.args.k c.requires.within c.requires.place)
