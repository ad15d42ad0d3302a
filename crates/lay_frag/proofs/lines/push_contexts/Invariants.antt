use Rattle.std.proofs.Common.{◌≡◌, ◌++◌, take}
use Rattle.std.specs.Str.{IsAscii}
use Rattle.lay_frag.specs.Lines.{tree_text}
use Rattle.lay_frag.proofs.lines.push_contexts.Given as goal

abbrev pub invariant-loop-placed : goal.invariant-loop-placed
invariant-loop-placed l = record {
  added : l.bytes.items ≡ l.fn.bytes.items ++ tree_text (take l.placed-index l.contexts);
  ascii : IsAscii (tree_text (take l.placed-index l.contexts));
}
