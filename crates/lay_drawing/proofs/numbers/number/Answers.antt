use Rattle.std.proofs.Common.{sym, ◌∙◌}
use Rattle.lay_drawing.proofs.Numerals.{numeral_utf8, unread}
use Rattle.lay_drawing.proofs.numbers.number.Goals as goal

pub returns-in-Err-parse : goal.returns-in-Err-parse
returns-in-Err-parse c =
    let is = rw (c.in-Err-parse.is, c.in-Ok.ensures.cases.0) at c.parse.ensures.value.0 in
    sym (unread c.args.text.now c.in-Err-parse.field-0 (sym c.is_numeral.ensures ∙ c.if-not-is_numeral.false) is)

pub returns-in-Err : goal.returns-in-Err
returns-in-Err c = absurd (c.in-Err.ensures.cases.0 (numeral_utf8 c.args.text.now (sym c.is_numeral.ensures ∙ c.if-not-is_numeral.false)))
