use Rattle.lay_generator.proofs.LastDocuments.{generated_edits_fit}
use Rattle.lay_generator.proofs.laws.generated_edits_fit.Goals as goal

pub returns : goal.returns
returns c = generated_edits_fit
