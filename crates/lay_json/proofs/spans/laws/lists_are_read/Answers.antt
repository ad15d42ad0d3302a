use Rattle.lay_json.proofs.SpansLemmas.Whole.{lists}
use Rattle.lay_json.proofs.spans.laws.lists_are_read.Goals as goal

pub returns : goal.returns
returns c = lists
