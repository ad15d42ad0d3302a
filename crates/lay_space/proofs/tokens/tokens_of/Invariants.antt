use Rattle.std.proofs.Common.{◌≡◌, ◌++◌, drop, true}
use Rattle.lay_space.specs.Tokens.{tokens_of, without_leading_spaces}
use Rattle.lay_space.proofs.tokens.tokens_of.Given as goal

abbrev pub invariant-loop-k : goal.invariant-loop-k
invariant-loop-k l =
    l.out.items ++ without_leading_spaces l.first (tokens_of l.k (drop l.k l.items)) ≡ without_leading_spaces true (tokens_of 0 l.items)
