use Rattle.lay_shape.proofs.ShapeLawsLemmas.FirstContexts.{root_stays_first_lem}
use Rattle.lay_shape.proofs.shape_laws.root_keys.root_stays_first.Goals as goal

pub returns : goal.returns
returns c = root_stays_first_lem
