use Rattle.lay_box_cases.proofs.SmallGrids.{columns_few}
use Rattle.lay_box_cases.proofs.grids.slots_of.Goals as goal

pub slots-requires-clause-columns : goal.slots-requires-clause-columns
slots-requires-clause-columns c = rw c.deref.ensures.value (columns_few c.in_ok-rows.rows.items c.in_ok-rows.ensures.few c.in_ok-rows.ensures.small)
