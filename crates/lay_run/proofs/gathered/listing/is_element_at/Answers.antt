use Rattle.std.proofs.Common.{ap, ◌∙◌}
use Rattle.lay_doc.specs.NewNodes.{is_element}
use Rattle.lay_run.proofs.GatheredLemmas.Faults.{item_element}
use Rattle.lay_run.proofs.gathered.listing.is_element_at.Goals as goal

pub returns : goal.returns
returns c = c.is_element.ensures ∙ ap is_element c.kind.ensures.kind ∙ item_element c.args.items.now c.args.number c.index-items-number.result c.requires
