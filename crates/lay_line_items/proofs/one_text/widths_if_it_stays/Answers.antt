use Rattle.lay_line_items.proofs.OneText.{stays_some}
use Rattle.lay_line_items.proofs.one_text.widths_if_it_stays.Goals as goal

pub returns-then-collapses-clause-stays : goal.returns-then-collapses-clause-stays
returns-then-collapses-clause-stays c = stays_some _ _ _ _ c.in_ok-widths.ensures
