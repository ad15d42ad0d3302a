use Rattle.std.proofs.Common.{◌≡◌, ◌-◌, length, take, drop}
use Rattle.lay_json.specs.Styled.NamesByPlace.{AreNamed}
use Rattle.lay_json.proofs.styled.by_place.by_place.Given as goal

-- what is left are the first names, and the ids of the others are called
abbrev pub invariant-loop-done : goal.invariant-loop-done
invariant-loop-done l = record {
  left : l.rest.items ≡ take (l.count - l.done) (take (length l.listed) l.fn.names);
  named : AreNamed l.doc.nodes (drop (l.count - l.done) l.listed) (drop (l.count - l.done) (take (length l.listed) l.fn.names)) l.named.items;
}
