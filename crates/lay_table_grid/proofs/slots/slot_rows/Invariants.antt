use Rattle.lay_table_grid.specs.Pass.Slots.{SlotsTo}
use Rattle.lay_table_grid.proofs.slots.slot_rows.Given as goal

abbrev pub invariant-loop-k : goal.invariant-loop-k
invariant-loop-k l = SlotsTo l.cells l.fn.rows l.k l.slots.items
