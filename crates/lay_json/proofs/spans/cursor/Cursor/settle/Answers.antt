use Rattle.std.proofs.Common.{ap, arith}
use Rattle.json.specs.Lex.{between, lex, after_value, after_comma, punctuate}
use Rattle.lay_json.specs.Spans.Readings.{tokens_at}
use Rattle.lay_json.proofs.SpansLemmas.Steps.{comma_passed}
use Rattle.lay_json.proofs.spans.cursor.Cursor.settle.Goals as goal

pub returns-in-Some : goal.returns-in-Some
returns-in-Some c =
    let passed = comma_passed c.in-Some.rest.now in
    let stands = ap (λ p. tokens_at p c.self.inside.rest.now) c.in-AfterValue.is in
    let begun = ap (λ t. punctuate after_value (lex between t)) c.in-Some.ensures in
    let first = ap (punctuate after_value) c.after_spaces-self-inside.ensures in
    let last = ap (punctuate after_comma) c.after_spaces-self-inside-in-Some.ensures in
    grind (arith, passed, stands, begun, first, last)
