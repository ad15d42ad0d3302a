use Rattle.std.proofs.Common.{None, rules, sym}
use Rattle.lay_core.proofs.Trees.{last_of_get}
use Rattle.lay_core.proofs.publishing.last_version.Goals as goal

pub returns : goal.returns
returns c = rw (last_of_get (λ t. t.version) None c.args.trees.now c.in_ok-last.last.now (sym c.in_ok-last.ensures.value)) (search rules)
