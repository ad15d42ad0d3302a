use Rattle.lay_boxgen.proofs.Broken.{inlines_are_broken}
use Rattle.lay_boxgen.proofs.rule_laws.inlines_are_broken.Goals as goal

pub returns : goal.returns
returns c = inlines_are_broken
