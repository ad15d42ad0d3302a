use Rattle.lay_words.proofs.Whole.{reads}
use Rattle.lay_words.proofs.laws.clap_agrees.Goals as goal

pub returns : goal.returns
returns c = reads
