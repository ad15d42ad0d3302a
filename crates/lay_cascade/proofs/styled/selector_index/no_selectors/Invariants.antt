use Rattle.std.proofs.Common.{◌≡◌, length}
use Rattle.lay_cascade.proofs.styled.selector_index.no_selectors.Given as goal

abbrev pub invariant-loop-k : goal.invariant-loop-k
invariant-loop-k l = length l.by_name.items ≡ l._k
