use Rattle.lay_boxgen.proofs.ListedContexts.{boxes_lead_on}
use Rattle.lay_boxgen.proofs.laws.boxes_lead_on.Goals as goal

pub returns : goal.returns
returns c = boxes_lead_on
