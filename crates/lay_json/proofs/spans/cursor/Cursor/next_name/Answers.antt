use Rattle.std.proofs.Common.{None, ap, ◌∙◌}
use Rattle.json.specs.Json.{read_key}
use Rattle.json.proofs.Grammar.{read_key-shorter}
use Rattle.lay_json.specs.Spans.Readings.{tokens_at}
use Rattle.lay_json.specs.declared.spans.cursor.Place.TheVariants.{AfterValue}
use Rattle.lay_json.proofs.SpansLemmas.Steps.{object_closed}
use Rattle.lay_json.proofs.spans.cursor.Cursor.next_name.Goals as goal

pub returns-in-Some-clause-value : goal.returns-in-Some-clause-value
returns-in-Some-clause-value c = let it = c.in-Some.ensures.closes in ap read_key (it.2 ∙ object_closed it.0 c.in-Some.rest.now it.1)

pub returns-in-Some-clause-shorter : goal.returns-in-Some-clause-shorter
returns-in-Some-clause-shorter c =
    let it = c.in-Some.ensures.closes in
    read_key-shorter c.args.self.now None (tokens_at AfterValue c.in-Some.rest.now) (ap read_key (it.2 ∙ object_closed it.0 c.in-Some.rest.now it.1))
