use Rattle.std.proofs.Common.{sym, ap, ◌∙◌, Some}
use Rattle.json.specs.Lex.{between, lex}
use Rattle.json.specs.Json.{read_key}
use Rattle.json.proofs.Grammar.{read_key-shorter}
use Rattle.lay_json.specs.Spans.Readings.{tokens_at}
use Rattle.lay_json.specs.declared.spans.cursor.Place.TheVariants.{Fresh}
use Rattle.lay_json.proofs.SpansLemmas.Steps.{key_read}
use Rattle.lay_json.proofs.spans.cursor.Cursor.name.Goals as goal

pub returns-clause-value : goal.returns-clause-value
returns-clause-value c =
    let it = c.in_ok-text.ensures.opens in
    let colon_next = sym c.after_spaces.ensures ∙ ap (lex between) c.in-Some-after.ensures in
    ap read_key (it.2 ∙ key_read it.0 c.in_ok-text.text.now c.in-Some.name.now c.in-Some.behind.now c.in-Some-after.rest.now it.1 c.in-Some.ensures.content c.in-Some.ensures.rest colon_next)

pub returns-clause-shorter : goal.returns-clause-shorter
returns-clause-shorter c =
    let it = c.in_ok-text.ensures.opens in
    let colon_next = sym c.after_spaces.ensures ∙ ap (lex between) c.in-Some-after.ensures in
    read_key-shorter c.args.self.now (Some c.in-Some.name.now) (tokens_at Fresh c.in-Some-after.rest.now)
    (ap read_key (it.2 ∙ key_read it.0 c.in_ok-text.text.now c.in-Some.name.now c.in-Some.behind.now c.in-Some-after.rest.now it.1 c.in-Some.ensures.content c.in-Some.ensures.rest colon_next))
