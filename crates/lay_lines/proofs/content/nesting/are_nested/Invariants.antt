use Rattle.std.proofs.Common.{◌≤◌, drop}
use Rattle.lay_lines.specs.Content.LineContents.{AreNested}
use Rattle.lay_lines.proofs.content.nesting.are_nested.Given as goal

abbrev pub invariant-loop-k : goal.invariant-loop-k
invariant-loop-k l = record {
  few : l.count ≤ 128;
  nested : AreNested l.count (drop l.k l.stretches) → AreNested 0 l.stretches;
  left : AreNested 0 l.stretches → AreNested l.count (drop l.k l.stretches);
}
