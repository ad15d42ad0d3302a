use Rattle.lay_json.proofs.OneReading.{one_reading_lem}
use Rattle.lay_json.proofs.laws.one_reading.Goals as goal

pub returns : goal.returns
returns c = one_reading_lem
