use Rattle.std.proofs.Common.{◌≡◌, map, take}
use Rattle.lay_cascade.specs.Styled.Index.{list_of}
use Rattle.lay_cascade.proofs.styled.nodes.lists_of.Given as goal

abbrev pub invariant-loop-i : goal.invariant-loop-i
invariant-loop-i l = l.numbers.items ≡ map list_of (take l.i l.classes)
