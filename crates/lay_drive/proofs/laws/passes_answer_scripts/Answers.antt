use Rattle.lay_drive.proofs.Answering.{answer}
use Rattle.lay_drive.proofs.laws.passes_answer_scripts.Goals as goal

pub returns : goal.returns
returns c = answer
