use Rattle.lay_history.proofs.EditsLemmas.Lists.{lists_leave_documents}
use Rattle.lay_history.proofs.edits.laws.lists_leave_documents.Goals as goal

pub returns : goal.returns
returns c = lists_leave_documents
