use Rattle.lay_core.proofs.CoreLawsLemmas.ReachedTurns.{turns_are_of_versions_lem}
use Rattle.lay_core.proofs.core_laws.laws.turns_are_of_versions.Goals as goal

pub returns : goal.returns
returns c = turns_are_of_versions_lem c.one_style_column.ensures c.one_context_list.ensures c.one_formatting_context_list.ensures c.inputs_are_kept.ensures c.one_given_input.ensures c.claims_work.ensures.claims c.claims_work.ensures.next_claims c.claims_work.ensures.batches c.claims_work.ensures.outcomes
