use Rattle.lay_drawing.proofs.LineReading.{if_line}
use Rattle.lay_drawing.proofs.fields.read_line.Goals as goal

pub returns-clause-is_line : goal.returns-clause-is_line
returns-clause-is_line c = let e = rw (c.deref.ensures.value, c.in_ok-fields.ensures) at c.line_from.ensures in if_line c.args.text.now c.line_from.result e
