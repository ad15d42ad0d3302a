use Rattle.std.proofs.Common.{◌≡◌, replicate}
use Rattle.lay_json.specs.Styled.NamesByPlace.{no_names}
use Rattle.lay_json.proofs.styled.by_place.none_named.Given as goal

abbrev pub invariant-loop-k : goal.invariant-loop-k
invariant-loop-k l = l.named.items ≡ replicate l._k no_names
