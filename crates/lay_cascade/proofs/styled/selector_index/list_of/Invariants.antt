use Rattle.std.proofs.Common.{◌≡◌, ◌<◌, drop}
use Rattle.lay_cascade.specs.Styled.Index.{list_from, list_of}
use Rattle.lay_cascade.proofs.styled.selector_index.list_of.Given as goal

abbrev pub invariant-loop-byte : goal.invariant-loop-byte
invariant-loop-byte l = record {
  below : l.sum < 4096;
  goes_on : list_from l.sum (drop l.byte-index l.name) ≡ list_of l.name;
}
