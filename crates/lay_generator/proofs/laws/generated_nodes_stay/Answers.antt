use Rattle.lay_generator.proofs.LastDocuments.{generated_nodes_stay}
use Rattle.lay_generator.proofs.laws.generated_nodes_stay.Goals as goal

pub returns : goal.returns
returns c = generated_nodes_stay
