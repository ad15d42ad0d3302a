use Rattle.std.proofs.Common.{◌∙◌}
use Rattle.lay_json.proofs.SpansLemmas.Steps.{array_opened}
use Rattle.lay_json.proofs.spans.cursor.Cursor.begin_array.Goals as goal

pub returns-clause-yes : goal.returns-clause-yes
returns-clause-yes c = λ done. let it = c.in-Ok.ensures.opens in it.2 ∙ array_opened it.0 c.in-Ok.rest.now it.1
