use Rattle.lay_json.proofs.SpansLemmas.Whole.{last_names}
use Rattle.lay_json.proofs.spans.laws.last_names_stay.Goals as goal

pub returns : goal.returns
returns c = last_names
