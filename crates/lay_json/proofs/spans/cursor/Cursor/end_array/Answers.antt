use Rattle.std.proofs.Common.{◌∙◌}
use Rattle.lay_json.proofs.SpansLemmas.Steps.{array_closed}
use Rattle.lay_json.proofs.spans.cursor.Cursor.end_array.Goals as goal

pub returns-clause-yes : goal.returns-clause-yes
returns-clause-yes c = λ done. let it = c.in-Some.ensures.closes in it.2 ∙ array_closed it.0 c.in-Some.rest.now it.1
