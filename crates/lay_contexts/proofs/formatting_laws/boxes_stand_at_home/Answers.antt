use Rattle.lay_contexts.proofs.ListLaws.{at_home}
use Rattle.lay_contexts.proofs.formatting_laws.boxes_stand_at_home.Goals as goal

pub returns : goal.returns
returns c = at_home
