use Rattle.std.proofs.Common.{◌≡◌, None, replicate}
use Rattle.lay_cascade.proofs.styled.candidates.no_winners.Given as goal

abbrev pub invariant-loop-k : goal.invariant-loop-k
invariant-loop-k l = l.winners.items ≡ replicate l._k None
