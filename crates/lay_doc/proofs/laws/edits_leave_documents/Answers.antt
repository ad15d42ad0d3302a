use Rattle.lay_doc.proofs.EditedDocuments.{edits_leave_documents}
use Rattle.lay_doc.proofs.laws.edits_leave_documents.Goals as goal

pub returns : goal.returns
returns c = edits_leave_documents
