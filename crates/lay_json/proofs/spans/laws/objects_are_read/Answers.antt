use Rattle.lay_json.proofs.SpansLemmas.Whole.{objects}
use Rattle.lay_json.proofs.spans.laws.objects_are_read.Goals as goal

pub returns : goal.returns
returns c = objects
