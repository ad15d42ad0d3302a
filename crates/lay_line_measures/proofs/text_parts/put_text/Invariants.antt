use Rattle.std.proofs.Common.{◌≡◌, ◌++◌, drop}
use Rattle.lay_line_measures.specs.TextParts.{text_parts}
use Rattle.lay_line_measures.proofs.text_parts.put_text.Given as goal

abbrev pub invariant-loop-k : goal.invariant-loop-k
invariant-loop-k l =
    l.parts.items ++ text_parts l.run.of l.run.text.now (drop l.k l.widths) ≡ l.fn.parts.items ++ text_parts l.run.of l.run.text.now l.widths
