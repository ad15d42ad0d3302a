use Rattle.lay_core.proofs.CoreLawsLemmas.DocumentVersions.{versions_are_documents_lem}
use Rattle.lay_core.proofs.core_laws.laws.versions_are_documents.Goals as goal

pub returns : goal.returns
returns c = versions_are_documents_lem
