use Rattle.lay_contexts.specs.Partings.{AreRanksTo}
use Rattle.lay_contexts.proofs.ranks.ranks.Given as goal

abbrev pub invariant-loop-k : goal.invariant-loop-k
invariant-loop-k l = AreRanksTo l.homes l.ranks.items l.at_home.items l.k
