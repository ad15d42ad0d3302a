use Rattle.std.proofs.Common.{◌∙◌}
use Rattle.lay_json.proofs.SpansLemmas.Steps.{object_opened}
use Rattle.lay_json.proofs.spans.cursor.Cursor.begin_object.Goals as goal

pub returns : goal.returns
returns c = let it = c.in_ok-self-inside.ensures.opens in it.2 ∙ object_opened it.0 c.in_ok-self-inside.field-0.now it.1
