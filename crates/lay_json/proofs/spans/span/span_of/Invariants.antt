use Rattle.std.proofs.Common.{◌≡◌, ◌+◌, ◌≤◌, take}
use Rattle.json.specs.Lex.{between}
use Rattle.lay_json.specs.Spans.Modes.{behind}
use Rattle.lay_json.specs.Spans.Scans.{mode_of}
use Rattle.lay_json.proofs.spans.span.span_of.Given as goal

abbrev pub invariant-loop-byte : goal.invariant-loop-byte
invariant-loop-byte l = record {
  at : l.at ≡ l.byte-index;
  mode : mode_of l.mode ≡ behind between (take l.byte-index l.text);
  depth : l.depth ≤ l.byte-index;
  count : l.count ≤ l.byte-index + 1;
}
