use Rattle.lay_contexts.proofs.ListLaws.{whole}
use Rattle.lay_contexts.proofs.formatting_laws.whole_contexts_keep_boxes.Goals as goal

pub returns : goal.returns
returns c = whole
