use Rattle.std.proofs.Common.{◌≡◌, ◌++◌, drop}
use Rattle.lay_face.specs.PlainTexts.{plain_widths}
use Rattle.lay_face.proofs.face.Face.plain_widths.Given as goal

abbrev pub invariant-loop-k : goal.invariant-loop-k
invariant-loop-k l = l.widths.items ++ plain_widths l.self l.setting l.k (drop l.k l.text) ≡ plain_widths l.self l.setting 0 l.text
