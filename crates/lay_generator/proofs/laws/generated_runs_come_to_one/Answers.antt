use Rattle.lay_generator.proofs.LastDocuments.{generated_runs_come_to_one}
use Rattle.lay_generator.proofs.laws.generated_runs_come_to_one.Goals as goal

pub returns : goal.returns
returns c = generated_runs_come_to_one
