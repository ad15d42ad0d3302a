use Rattle.lay_generator.proofs.Faultless.{generated_nodes_fit}
use Rattle.lay_generator.proofs.laws.generated_nodes_fit.Goals as goal

pub returns : goal.returns
returns c = generated_nodes_fit
