use Rattle.std.proofs.Common.{◌≡◌, ◌++◌, drop}
use Rattle.lay_measure.specs.LineParts.{text_parts}
use Rattle.lay_measure.proofs.line_parts.put_text.Given as goal

abbrev pub invariant-loop-k : goal.invariant-loop-k
invariant-loop-k l =
    l.parts.items ++ text_parts l.mode l.text (drop l.k l.widths) ≡ l.fn.parts.items ++ text_parts l.mode l.text l.widths
