use Rattle.std.proofs.Common.{◌≡◌, ◌≤◌, drop}
use Rattle.lay_lines.specs.Content.LineContents.{AreNestedParts, open_after_parts}
use Rattle.lay_lines.proofs.content.nesting.open_after_parts.Given as goal

abbrev pub invariant-loop-k : goal.invariant-loop-k
invariant-loop-k l = record {
  few : l.count ≤ 128;
  value : open_after_parts l.before l.parts ≡ open_after_parts l.count (drop l.k l.parts);
  nested : AreNestedParts l.count (drop l.k l.parts) → AreNestedParts l.before l.parts;
  left : AreNestedParts l.before l.parts → AreNestedParts l.count (drop l.k l.parts);
}
